-- A refusal of a stage is one of the inputs; what holds of the options holds of the words.
use Rattle.kpn_command_base.proofs.Common.{rules, ◌≡◌, ℕ, List, All, map, IfErr, Ok, sym, ap, ◌∙◌, subst, Bor, IfErr-weaker, All-map, SourceWord, FileOption, NamedEnd, IsRefusalOfDescription, HasEquals, name_in, file_in, sources_named, AreGiven, IsRefusalOfWords, IsRefusalOfNames, IsRefusalOfItems, Sources}
use Rattle.kpn_net.specs.Iteration.{sources}
use Rattle.kpn_command_base.proofs.SourceLemmas.{map-map}
use Rattle.kpn_command_base.proofs.InputLemmas.{words_refused, description_refused, names_refused, sinks_refused, items_refused}
use Rattle.kpn_command_base.proofs.inputs.load_run_inputs.Goals as goal

name : FileOption → List ℕ
name o = o.name.now

file : FileOption → List ℕ
file o = o.file.now

end_file : NamedEnd → List ℕ
end_file f = f.file.now

number : NamedEnd → ℕ
number f = f.number

now : Bor (List ℕ) → List ℕ
now w = w.now

-- what holds of options holds of the words that spell them
names_of : (f : List ℕ → List ℕ) (g : FileOption → List ℕ) (words : List (Bor (List ℕ)))
    (options slice : List FileOption) → slice ≡ options → map g options ≡ map (λ w. f (now w)) words
    → map g slice ≡ map f (map now words)
unfolding now
names_of f g words options slice e h = ap (map g) e ∙ h ∙ sym (map-map f now words)

cut_of : (words : List (Bor (List ℕ))) → All (λ w. HasEquals (now w)) words → All HasEquals (map now words)
cut_of words h = All-map HasEquals now words h

pub returns-in_err-options-clause-refused : goal.returns-in_err-options-clause-refused
unfolding name now
returns-in_err-options-clause-refused g c =
    let may_give = g.S.Shelf.may_give c.args.shelf.now in
    let words = map now c.args.words.now in
    let h : IfErr c.from_residual.result (IsRefusalOfWords SourceWord words) = search rules in
    IfErr-weaker c.from_residual.result (IsRefusalOfWords SourceWord words) _
    (words_refused may_give c.args.file.now words (map name c.args.sinks.now))
    h

pub returns-in_err-document-clause-refused : goal.returns-in_err-document-clause-refused
unfolding name now
returns-in_err-document-clause-refused g c =
    let may_give = g.S.Shelf.may_give c.args.shelf.now in
    let h : IfErr c.from_residual-in_err-document.result (IsRefusalOfDescription may_give c.args.file.now) =
    search rules in
    IfErr-weaker c.from_residual-in_err-document.result (IsRefusalOfDescription may_give c.args.file.now) _
    (description_refused may_give c.args.file.now (map now c.args.words.now) (map name c.args.sinks.now)
    (cut_of c.args.words.now c.in_ok-options.ensures.cut))
    h

pub returns-in_err-feeds-clause-refused : goal.returns-in_err-feeds-clause-refused
unfolding name now
returns-in_err-feeds-clause-refused g c =
    let may_give = g.S.Shelf.may_give c.args.shelf.now in
    let d = c.in_ok-document.document in
    let names =
    names_of name_in name c.args.words.now c.in_ok-options.options.items c.deref.result.now c.deref.ensures.value
    c.in_ok-options.ensures.names in
    let h : IfErr c.from_residual-in_err-feeds.result
    (λ r. IsRefusalOfNames Sources d (map name c.deref.result.now) r) = search rules in
    IfErr-weaker c.from_residual-in_err-feeds.result
    (λ r. IsRefusalOfNames Sources d (map name c.deref.result.now) r) _
    (λ r n.
    names_refused may_give c.args.file.now (map now c.args.words.now) (map name c.args.sinks.now)
    (cut_of c.args.words.now c.in_ok-options.ensures.cut)
    d c.in_ok-document.ensures.ok r (subst (λ ns. IsRefusalOfNames Sources d ns r) names n))
    h

pub returns-in-Err-clause-refused : goal.returns-in-Err-clause-refused
unfolding name now
returns-in-Err-clause-refused g c =
    let d = c.in_ok-document.document in
    let names =
    names_of name_in name c.args.words.now c.in_ok-options.options.items c.deref.result.now c.deref.ensures.value
    c.in_ok-options.ensures.names in
    sinks_refused (g.S.Shelf.may_give c.args.shelf.now) c.args.file.now (map now c.args.words.now)
    (map name c.args.sinks.now) (cut_of c.args.words.now c.in_ok-options.ensures.cut)
    d c.in_ok-document.ensures.ok _ (ap (sources_named d) (sym names) ∙ c.in_ok-feeds.ensures.named)
    c.in-Err.refusal c.in-Err.ensures.refused

pub returns-in_err-given-clause-refused : goal.returns-in_err-given-clause-refused
unfolding name file end_file number now
returns-in_err-given-clause-refused g c =
    let may_give = g.S.Shelf.may_give c.args.shelf.now in
    let d = c.in_ok-document.document in
    let names =
    names_of name_in name c.args.words.now c.in_ok-options.options.items c.deref.result.now c.deref.ensures.value
    c.in_ok-options.ensures.names in
    let files =
    ap (map end_file) c.deref-2.ensures.value ∙ c.in_ok-feeds.ensures.files
    ∙ names_of file_in file c.args.words.now c.in_ok-options.options.items c.deref.result.now
    c.deref.ensures.value c.in_ok-options.ensures.files in
    let are = ap (sources_named d) (sym names) ∙ c.in_ok-feeds.ensures.named in
    let h : IfErr c.from_residual-in_err-given.result
    (λ r. IsRefusalOfItems may_give (map end_file c.deref-2.result.now) r) = search rules in
    IfErr-weaker c.from_residual-in_err-given.result
    (λ r. IsRefusalOfItems may_give (map end_file c.deref-2.result.now) r) _
    (λ r n.
    items_refused may_give c.args.file.now (map now c.args.words.now) (map name c.args.sinks.now)
    (cut_of c.args.words.now c.in_ok-options.ensures.cut)
    d c.in_ok-document.ensures.ok _ are _ c.in-Ok.ensures.named r
    (subst (λ fs. IsRefusalOfItems may_give fs r) files n))
    h

pub returns-clause-ok : goal.returns-clause-ok
unfolding name file end_file number now
returns-clause-ok g c =
    let may_give = g.S.Shelf.may_give c.args.shelf.now in
    let d = c.in_ok-document.document in
    let named = map number c.deref-2.result.now in
    let given = c.in_ok-given.given.items in
    let names =
    names_of name_in name c.args.words.now c.in_ok-options.options.items c.deref.result.now c.deref.ensures.value
    c.in_ok-options.ensures.names in
    let files =
    ap (map end_file) c.deref-2.ensures.value ∙ c.in_ok-feeds.ensures.files
    ∙ names_of file_in file c.args.words.now c.in_ok-options.options.items c.deref.result.now
    c.deref.ensures.value c.in_ok-options.ensures.files in
    let count : c.sources.result ≡ sources d.tables = c.sources.ensures ∙ ap sources c.network.ensures in
    record {
      cut = cut_of c.args.words.now c.in_ok-options.ensures.cut;
      described = c.in_ok-document.ensures.ok;
      named = named;
      are_sources =
          ap (sources_named d) (sym names) ∙ c.in_ok-feeds.ensures.named
          ∙ ap (λ fs. Ok (map number fs)) (sym c.deref-2.ensures.value);
      are_given =
          subst (λ fs. AreGiven may_give (sources d.tables) named fs given) files
          (subst (λ k. AreGiven may_give k named (map end_file c.deref-2.result.now) given) count
          c.in_ok-given.ensures.ok);
    }
