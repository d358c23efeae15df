-- What holds of the words that are handed on holds of those of the request.
use Rattle.kpn_command_stream.proofs.Common.{◌≡◌, ◌∙◌, ℕ, List, Bor, map, ap, sym, IfOk-weaker, name_in, file_in, now}
use Rattle.kpn_command_base.proofs.SourceLemmas.{map-map}
use Rattle.kpn_command_stream.proofs.command.sources_of.Goals as goal

-- a part of each word
part : (f : List ℕ → List ℕ) (parts : List (List ℕ)) (handed words : List (Bor (List ℕ))) (asked : List (List ℕ))
    → handed ≡ words → map now words ≡ asked → parts ≡ map (λ word. f word.now) handed → parts ≡ map f asked
part f parts handed words asked same are is =
    is ∙ sym (map-map f now handed) ∙ ap (map f) (ap (map now) same ∙ are)

pub returns-clause-names : goal.returns-clause-names
returns-clause-names c =
    IfOk-weaker c.options_of.result _ _
    (λ sources is. part name_in _ _ _ _ c.deref.ensures.value (ap (λ r. r.sources) c.request.view_is) is)
    c.options_of.ensures.names

pub returns-clause-files : goal.returns-clause-files
returns-clause-files c =
    IfOk-weaker c.options_of.result _ _
    (λ sources is. part file_in _ _ _ _ c.deref.ensures.value (ap (λ r. r.sources) c.request.view_is) is)
    c.options_of.ensures.files
