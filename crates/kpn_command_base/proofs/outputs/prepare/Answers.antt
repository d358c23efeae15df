-- Inputs that can't be loaded refuse the run, and an output that can't be made ready.
use Rattle.kpn_command_base.proofs.Common.{◌≡◌, ℕ, List, map, length, ap, sym, subst, ◌∙◌, length-map, RunRequest, Document, NamedEnd, FileOption, AreInputs, AreNamedSinks, IsRefusalOfRunInputs, name_in, file_in, AreAllApart, AreSinksNamed, outputs_of, words_of}
use Rattle.kpn_command_base.proofs.Apart.{now, unloaded, unready}
use Rattle.kpn_command_base.proofs.outputs.prepare.Goals as goal

name : FileOption → List ℕ
name o = o.name.now

file : FileOption → List ℕ
file o = o.file.now

-- the sinks that these options name are those of the words
are_sinks : (request : RunRequest) (d : Document) (named : List NamedEnd) (options handed : List FileOption)
    → handed ≡ options → map name options ≡ map name_in request.sinks → map file options ≡ map file_in request.sinks
    → AreNamedSinks d (map name handed) (map file handed) named → AreSinksNamed request d named
are_sinks request d named options handed same names files are =
    subst (λ ns. AreNamedSinks d ns (map file_in request.sinks) named) (ap (map name) same ∙ names)
    (subst (λ fs. AreNamedSinks d (map name handed) fs named) (ap (map file) same ∙ files) are)

-- what holds of the words as they are stored holds of those of the request
carried : (P : List ℕ → List (List ℕ) → Type 0) (file f : List ℕ) (words ws : List (List ℕ)) → file ≡ f → words ≡ ws
    → P file words → P f ws
carried P file f words ws is are h = subst (λ x. P x ws) is (subst (P file) are h)

pub returns-in-Err-clause-refused : goal.returns-in-Err-clause-refused
unfolding name
returns-in-Err-clause-refused g c =
    let may_give = g.S.Shelf.may_give c.args.shelf.now in
    let request = c.args.request.now in
    let refusal = c.in-Err.refusal in
    let words : map now c.deref.result.now ≡ request.sources =
    ap (map now) c.deref.ensures.value ∙ ap (λ r. r.sources) c.request.view_is in
    let names : map name c.deref-2.result.now ≡ map name_in request.sinks =
    ap (map name) c.deref-2.ensures.value ∙ c.in_ok-outputs.ensures.names
    ∙ ap (λ w. map name_in w.sinks) c.words_of-asked.ensures in
    unloaded (g.S.Shelf.may_alias c.args.shelf.now) request may_give (subst AreAllApart c.words_of-asked.ensures c.in_ok-outputs.ensures.apart) refusal
    (carried (λ f ws. IsRefusalOfRunInputs may_give f ws (map name_in request.sinks) refusal) _ request.file _
    request.sources (ap (λ r. r.file) c.request.view_is) words
    (subst (λ (ns : List (List ℕ)).
    IsRefusalOfRunInputs may_give c.request.inside.file.now (map now c.deref.result.now) ns refusal) names
    c.in-Err.ensures.refused))

pub returns-clause-refused : goal.returns-clause-refused
unfolding name file
returns-clause-refused g c =
    let request = c.args.request.now in
    let loaded = c.in-Ok.loaded in
    let may_give = g.S.Shelf.may_give c.args.shelf.now in
    let words : map now c.deref.result.now ≡ request.sources =
    ap (map now) c.deref.ensures.value ∙ ap (λ r. r.sources) c.request.view_is in
    let long : length c.deref-3.result.now ≡ length (outputs_of (words_of request)) =
    ap length c.deref-3.ensures.value ∙ sym (length-map c.in_ok-outputs.outputs.names.items now)
    ∙ ap length (c.in_ok-outputs.ensures.outputs ∙ ap outputs_of c.words_of-asked.ensures) in
    unready (g.S.Shelf.may_alias c.args.shelf.now) request may_give
    (subst AreAllApart c.words_of-asked.ensures c.in_ok-outputs.ensures.apart) (length c.deref-3.result.now) long
    (record {
      document = loaded.inputs.document;
      given = loaded.inputs.given.items;
      are_inputs =
          carried (λ f ws. AreInputs may_give f ws loaded.inputs.document loaded.inputs.given.items) _ request.file _
          request.sources (ap (λ r. r.file) c.request.view_is) words c.in-Ok.ensures.ok;
      named = loaded.sinks.items;
      are_sinks =
          are_sinks request loaded.inputs.document loaded.sinks.items c.in_ok-outputs.outputs.sinks.items
          c.deref-2.result.now c.deref-2.ensures.value
          (c.in_ok-outputs.ensures.names ∙ ap (λ w. map name_in w.sinks) c.words_of-asked.ensures)
          (c.in_ok-outputs.ensures.files ∙ ap (λ w. map file_in w.sinks) c.words_of-asked.ensures)
          c.in-Ok.ensures.sinks;
    })
    c.in-Err-make_ready.refusal c.in-Err-make_ready.ensures
