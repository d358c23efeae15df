-- What `clap` makes of the words: help is given only if it was asked for, and words are refused only for a fault.
use Rattle.kpn_command_line.proofs.Common.{rules, true, refl, ◌≡◌, ◌⊎◌, ◌∙◌, ℕ, List, [], sym, subst, inl, inr, Result, Ok, Err, MatchResult, HasKind, IsAmong, Kinds, fault_of, is_simple_and_free, App, HasMatchesOf, app_of, is_simple, subcommand_of, subcommand_rows_of, Command, DisplayHelp, DisplayVersion, OutOfMemory, Request, Help, WordsFault, Usage, NoMemory, IsCommand, command_line, AsksForHelp, IsAsked, IsRefused, IsHelpOfKind, IsRefusalOfKind}
use Rattle.clap.specs.declared.parser.matches.ArgMatches.{ArgMatches}
use Rattle.clap.specs.declared.error.Error.{Error}
use Rattle.clap.specs.declared.error.kind.ErrorKind.{ErrorKind}

-- memory that ran out is no help
is_among : (kind wanted : ErrorKind) (kinds : Kinds) → (wanted ≡ OutOfMemory → ⊥) → kind ≡ wanted
    → (kind ≡ OutOfMemory) ⊎ IsAmong kind kinds → IsAmong wanted kinds
is_among kind wanted kinds other is (inl out) = absurd (other (sym is ∙ out))
is_among kind wanted kinds other is (inr among) = subst (λ (k : ErrorKind). IsAmong k kinds) is among

asks : (words : List (List ℕ)) (kind : ErrorKind)
    → (kind ≡ OutOfMemory) ⊎ IsAmong kind (fault_of command_line words)
    → (kind ≡ DisplayHelp) ⊎ (kind ≡ DisplayVersion) → AsksForHelp words
asks words kind among (inl help) =
    inl (is_among kind DisplayHelp (fault_of command_line words) (λ e. search rules) help among)
asks words kind among (inr version) =
    inr (is_among kind DisplayVersion (fault_of command_line words) (λ e. search rules) version among)

help_is_asked : (words : List (List ℕ)) (kind : ErrorKind) (request : Request)
    → (kind ≡ OutOfMemory) ⊎ IsAmong kind (fault_of command_line words) → IsHelpOfKind kind request
    → IsAsked words request
help_is_asked words kind (Help text) among is = asks words kind among is
help_is_asked words kind other among is = absurd is

refusal_is_told : (words : List (List ℕ)) (kind : ErrorKind) (fault : WordsFault)
    → (kind ≡ OutOfMemory) ⊎ IsAmong kind (fault_of command_line words) → IsRefusalOfKind kind fault
    → IsRefused words fault
refusal_is_told words kind (Usage text) (inl out) is = absurd (is.2 out)
refusal_is_told words kind (Usage text) (inr among) is = inl (kind, among, is.0, is.1)
refusal_is_told words kind NoMemory among is = tt

pub all_is_asked : (words : List (List ℕ)) (kind : ErrorKind) (result : Result Request WordsFault)
    → (kind ≡ OutOfMemory) ⊎ IsAmong kind (fault_of command_line words)
    → MatchResult result (IsHelpOfKind kind) (IsRefusalOfKind kind)
    → MatchResult result (IsAsked words) (IsRefused words)
all_is_asked words kind (Ok request) among is = help_is_asked words kind request among is
all_is_asked words kind (Err fault) among is = refusal_is_told words kind fault among is

-- the command line is one of which `clap` says exactly what it makes of words
simple_and_free : is_simple_and_free command_line ≡ true
simple_and_free = refl

simple : is_simple command_line ≡ true
simple = refl

pub known_kinds : (program : Command) (words : List (List ℕ)) (error : Error) → IsCommand command_line program
    → (is_simple_and_free (app_of program) ≡ true → HasKind (fault_of (app_of program) words) error)
    → HasKind (fault_of command_line words) error
known_kinds program words error is kinds =
    subst (λ (app : App). is_simple_and_free app ≡ true → HasKind (fault_of app words) error) is.0 kinds
    simple_and_free

pub known_matches : (program : Command) (words : List (List ℕ)) (matches : ArgMatches) → IsCommand command_line program
    → (is_simple_and_free (app_of program) ≡ true → fault_of (app_of program) words ≡ [])
    → HasMatchesOf (app_of program) words matches
    → (fault_of command_line words ≡ []) × (subcommand_rows_of matches ≡ subcommand_of command_line words)
known_matches program words matches is faultless has = (
  subst (λ (app : App). is_simple_and_free app ≡ true → fault_of app words ≡ []) is.0 faultless simple_and_free,
  (subst (λ (app : App). HasMatchesOf app words matches) is.0 has simple).1,
)
