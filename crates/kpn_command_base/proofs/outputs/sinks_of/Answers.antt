-- What holds of the words that are handed on holds of those of the request.
use Rattle.kpn_command_base.proofs.Common.{◌≡◌, ◌∙◌, ℕ, List, Bor, All, map, refl, ap, sym, subst, IfOk-weaker, on_ok_weaker, All-map, HasEquals, name_in, file_in}
use Rattle.kpn_command_base.proofs.SourceLemmas.{map-map}
use Rattle.kpn_command_base.proofs.Apart.{now}
use Rattle.kpn_command_base.proofs.outputs.sinks_of.Goals as goal

-- a part of each word
part : (f : List ℕ → List ℕ) (parts : List (List ℕ)) (handed words : List (Bor (List ℕ))) (asked : List (List ℕ))
    → handed ≡ words → map now words ≡ asked → parts ≡ map (λ word. f word.now) handed → parts ≡ map f asked
part f parts handed words asked same are is =
    is ∙ sym (map-map f now handed) ∙ ap (map f) (ap (map now) same ∙ are)

pub returns-clause-names : goal.returns-clause-names
returns-clause-names c =
    IfOk-weaker c.options_of.result _ _
    (λ sinks is. part name_in _ _ _ _ refl (ap (λ r. r.sinks) c.asked.view_is) is)
    c.options_of.ensures.names

pub returns-clause-files : goal.returns-clause-files
returns-clause-files c =
    IfOk-weaker c.options_of.result _ _
    (λ sinks is. part file_in _ _ _ _ refl (ap (λ r. r.sinks) c.asked.view_is) is)
    c.options_of.ensures.files

pub returns-clause-cut : goal.returns-clause-cut
returns-clause-cut c =
    on_ok_weaker c.options_of.result
    (λ cut. subst (All HasEquals) (ap (λ r. r.sinks) c.asked.view_is)
    (All-map HasEquals now c.asked.inside.sinks.now cut)) c.options_of.ensures.cut
