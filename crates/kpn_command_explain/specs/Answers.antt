-- What `kpn explain` comes to, and why it gives no answer. Of the text that it writes about a fault the beginning is
-- fixed here, which names the place; rows show its words.
use Rattle.std.specs.Prelude.{◌≡◌, ◌⊎◌, ◌≢◌, ℕ, ℤ, List, [], ◌++◌, length, codes, Result, Ok, Err, ⊤}
use Rattle.std.specs.Fmt.{decimal}
use Rattle.kpn_text_items.specs.ItemFile.{Spells, IsFirstBad}
use Rattle.kpn_text_items.specs.declared.fault.ItemFault.TheVariants as item
use Rattle.kpn_text_tokens.specs.declared.tokens.Lexeme.{Lexeme}
use Rattle.kpn_text_tokens.specs.Opening.{language_of}
use Rattle.kpn_text.specs.declared.fault.TextFault.{TextFault}
use Rattle.kpn_text.specs.Document.{Document}
use Rattle.kpn_text.specs.Phases.{Cause, Refuses, meant_in}
use Rattle.kpn_command_base.specs.declared.refusal.Refusal.{Refusal}
use Rattle.kpn_command_base.specs.declared.refusal.Refusal.TheVariants.{Input, Description, NoMemory}
use Rattle.kpn_command_base.specs.Refusal.{status_of}
use Rattle.kpn_shelf.specs.Shelf.{Loads, IsRefusalOfLoad, IsLoadedAs}
use Rattle.kpn_command_base.specs.Description.{IsDescribed, IsRefusedDescription}
use Rattle.kpn_command_base.specs.Counts.{summary_text}
use Rattle.kpn_command_explain.specs.Concerned.{places_of}
use Rattle.kpn_command_explain.specs.Excerpt.{where_text}
use Rattle.kpn_command_explain.specs.Lines.{line_start}

-- ---- descriptions

-- no tokens, if there is a cause to refuse them
abbrev pub tokens_or_none : Result (List Lexeme) Cause → List Lexeme
tokens_or_none (Ok ls) = ls
tokens_or_none (Err other) = []

-- the tokens that a text stands for in its language
abbrev pub text_tokens : List ℕ → List Lexeme
text_tokens bytes = tokens_or_none (meant_in (language_of bytes) bytes)

-- an explanation of a fault of a text begins with the first place that the fault concerns
abbrev pub Explains : (file bytes : List ℕ) → TextFault → (text : List ℕ) → Type 0
Explains file bytes fault text =
    (rest : List ℕ) × (text ≡ where_text file bytes (places_of bytes (text_tokens bytes) fault).first ++ rest)

-- the text and the status for a file: the line of `kpn check`, 0, if it spells a network; else its fault explained, 1,
-- which is not that memory ran out
pub data IsExplained (may_give : Loads) (file : List ℕ) (text : List ℕ) (status : ℕ) : Type 0 where
  right : (d : Document) → IsDescribed may_give file d → text ≡ summary_text d → status ≡ 0
      → IsExplained may_give file text status
  wrong : (bytes : List ℕ) (fault : TextFault) → may_give file (Ok bytes) → Refuses bytes fault
      → status_of (Description fault) ≢ 6 → Explains file bytes fault text → status ≡ 1
      → IsExplained may_give file text status

-- why nothing is explained: the file is not loaded, or memory ran out
abbrev pub IsRefusalOfExplaining : (may_give : Loads) (file : List ℕ) → Refusal → Type 0
IsRefusalOfExplaining may_give file (Input fault) = IsRefusalOfLoad may_give file fault
IsRefusalOfExplaining may_give file (Description fault) =
    IsRefusedDescription may_give file fault × (status_of (Description fault) ≡ 6)
IsRefusalOfExplaining may_give file NoMemory = ⊤
IsRefusalOfExplaining may_give file other = ⊥

-- ---- item files

abbrev pub items_line : (items : ℕ) → List ℕ
items_line items = codes "ok: " ++ decimal items ++ codes " items\n"

-- an explanation of a bad line begins with its place
abbrev pub ExplainsLine : (file bytes : List ℕ) (line : ℕ) (text : List ℕ) → Type 0
ExplainsLine file bytes line text = (rest : List ℕ) × (text ≡ where_text file bytes (line_start bytes line) ++ rest)

-- the text and the status for a file: how many items it spells, 0; or its first bad line explained, 1
pub data AreItemsExplained (may_give : Loads) (file : List ℕ) (text : List ℕ) (status : ℕ) : Type 0 where
  right_items : (items : List ℤ) → IsLoadedAs Spells may_give file items → text ≡ items_line (length items) → status ≡ 0
      → AreItemsExplained may_give file text status
  wrong_line : (bytes : List ℕ) (line : ℕ) → may_give file (Ok bytes) → IsFirstBad bytes line
      → ExplainsLine file bytes line text → status ≡ 1 → AreItemsExplained may_give file text status

abbrev pub IsRefusalOfItemFile : (may_give : Loads) (file : List ℕ) → Refusal → Type 0
IsRefusalOfItemFile may_give file (Input fault) = IsRefusalOfLoad may_give file fault ⊎ (fault ≡ item.NoMemory)
IsRefusalOfItemFile may_give file NoMemory = ⊤
IsRefusalOfItemFile may_give file other = ⊥
