-- `kpn alone NAME`, from the bytes that come in to the bytes that go out.
use Rattle.std.specs.Prelude.{◌≡◌, ◌≢◌, ℕ, ◌-◌, ◌^◌, ℤ, List, [], ◌∷◌, Option, IfSome, Result, IfOk, IfErr, OnOk, IsErrOf}
use Rattle.std.specs.Io.KnownBytes.{IsAtEnd}
use Rattle.kpn_lang.specs.declared.talk.Said.{Said}
use Rattle.kpn_step.specs.declared.stop.AloneStop.{AloneStop}
use Rattle.kpn_step.specs.Walk.{AloneGives}
use Rattle.kpn_text_items.specs.Input.{LosesItsFront}
use Rattle.kpn_text_items.specs.ItemFile.{Spells, TellsFirstBadLine}
use Rattle.kpn_command_base.specs.declared.refusal.Refusal.{Refusal}
use Rattle.kpn_command_base.specs.declared.refusal.Refusal.TheVariants.{UnknownProcess, Input}
use Rattle.kpn_command_base.specs.declared.conclusion.Conclusion.{Conclusion}
use Rattle.kpn_command_base.specs.Conclusion.{Succeeds}
use Rattle.kpn_commands.specs.declared.built_in.BuiltIn.{BuiltIn}
use Rattle.kpn_commands.specs.BuiltIn.{name_of, built_in_program}
use Rattle.kpn_commands.specs.AloneText.{alone_text}
use Rattle.kpn_commands.specs.Refused.{WantsMemory}
use Rattle.kpn_commands.specs.Plain.{plain_text}

-- no process has this name
abbrev pub IsUnknown : List ℕ → Type 0
IsUnknown name = (process : BuiltIn) → name_of process ≢ name

-- the text is what `kpn alone NAME` makes of the bytes that came in. They spell items. The process of this name was
-- stepped alone on them. The text states what it put and how it faulted
pub record IsAloneText (name : List ℕ) (came_in : Option (List ℕ)) (text : List ℕ) : Type 0 where
  pub process : BuiltIn
  pub named : name_of process ≡ name
  pub items : List ℤ
  pub spelled : IfSome came_in (λ bytes. Spells bytes items)
  pub talk : List Said
  pub stop : AloneStop
  pub ran : AloneGives (built_in_program process) [] (items ∷ []) (2 ^ 64 - 1) talk stop
  pub made : text ≡ alone_text name talk stop
  -- which is plainly this
  pub plain : text ≡ plain_text process items

-- why there is no answer: a line that the fault names is the first that spells no item
abbrev pub IsRefusalOfAlone : (name : List ℕ) (came_in : Option (List ℕ)) → Refusal → Type 0
IsRefusalOfAlone name came_in UnknownProcess = IsUnknown name
IsRefusalOfAlone name came_in (Input fault) = IfSome came_in (λ bytes. TellsFirstBadLine bytes fault)
IsRefusalOfAlone name came_in other = WantsMemory other

-- What `kpn alone NAME` answers on an input, which is given as it was and as it is afterwards.
pub record RunsAlone {I : Type 0} (remaining : I → Option (List ℕ)) (name : List ℕ) (input read : I)
    (answer : Result Conclusion Refusal) : Type 0 where
  pub right : IfOk answer (Succeeds (IsAloneText name (remaining input)))
  pub cause : IfErr answer (IsRefusalOfAlone name (remaining input))
  -- an unknown name is refused before the input is read
  pub unknown : IsUnknown name → IsErrOf answer UnknownProcess
  pub unread : IsUnknown name → read ≡ input
  -- with a conclusion all of the input is read, and in any case the input loses only some bytes from its front
  pub whole : OnOk answer (IsAtEnd (remaining read))
  pub rest : LosesItsFront (remaining input) (remaining read)
