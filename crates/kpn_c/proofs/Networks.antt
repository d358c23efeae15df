-- No call changes the network.
use Rattle.std.proofs.Common.{◌≡◌, ℕ, Bool, true, false, ℤ, Option, Some, None, List, [], ◌∷◌, map, take, Result, Ok, Err, refl, ap, ◌∙◌}
use Rattle.kpn_c.proofs.Common.{OnOk, OnErr, Event, Feed, Close, Take, Leave, channel_in, closed_in, Book, Happens, AllHappen, closes_by, Closes, leaves_by, Leaves, takes_item, TurnsFrom, no_turn, one_turn_more, stops_by, FeedsEach, StepsEach, TakesEach, SourceItem, Wanted, feed_of, TakesForEach, no_take, one_take_more, steps_if, takes_if, has_fed, has_stepped, Moves}
use Rattle.kpn_book.specs.declared.answers.Done.{Done}
use Rattle.kpn_book.specs.declared.answers.Refused.{Refused}
use Rattle.kpn_book.specs.Stepping.{StepsNext, StepsInVain}
use Rattle.kpn_book.proofs.Appended.{tables_stay, commit_tables}
use Rattle.kpn_c.specs.declared.feeding.FedCount.{FedCount}
use Rattle.kpn_c.specs.declared.stepping.StepCount.{StepCount}
use Rattle.kpn_c.specs.declared.taking.Taken.{Taken}
use Rattle.kpn_c.specs.declared.moving.Moved.{Moved}

happens_tables : (e : Event) (before after : Book) → Happens e before after → after.tables ≡ before.tables
happens_tables e before after is = tables_stay (e ∷ is.growth) before after is.appends

pub all_tables : (events : List Event) (before after : Book) → AllHappen events before after
    → after.tables ≡ before.tables
all_tables [] before after same = ap (λ b. b.tables) same
all_tables (e ∷ events) before after happen =
    all_tables events happen.0 after happen.2 ∙ happens_tables e before happen.0 happen.1

pub feeds_tables : (source : ℕ) (items : List ℤ) (fed : FedCount) (before after : Book)
    → FeedsEach source items fed before after → after.tables ≡ before.tables
feeds_tables source items fed before after feeds =
    all_tables (map (Feed source) (take fed.count items)) before after feeds.feeds

pub take_tables : (sink : ℕ) (taken : Taken) (room kept : List ℤ) (before after : Book)
    → TakesEach sink taken room kept before after → after.tables ≡ before.tables
take_tables sink taken room kept before after takes =
    all_tables (map (Take sink) (take taken.count kept)) before after takes.takes

closes_tables : (was_closed : Bool) (c : ℕ) (before after : Book) → closes_by was_closed c before after
    → after.tables ≡ before.tables
closes_tables true c before after same = ap (λ b. b.tables) same
closes_tables false c before after happens = happens_tables (Close c) before after happens

pub close_tables : (c : ℕ) (closed : Result (Unit {0}) Refused) (before after : Book)
    → OnOk closed (Closes c before after) → OnErr closed (after ≡ before) → after.tables ≡ before.tables
close_tables c (Ok done) before after closes same =
    closes_tables (closed_in before.machine c) c before after closes.closes
close_tables c (Err cause) before after closes same = ap (λ b. b.tables) same

leaves_tables : (was_left : Bool) (c : ℕ) (before after : Book) → leaves_by was_left c before after
    → after.tables ≡ before.tables
leaves_tables true c before after same = ap (λ b. b.tables) same
leaves_tables false c before after happens = happens_tables (Leave c) before after happens

pub leave_tables : (c : ℕ) (left : Result (Unit {0}) Refused) (before after : Book)
    → OnOk left (Leaves c before after) → OnErr left (after ≡ before) → after.tables ≡ before.tables
leave_tables c (Ok done) before after leaves same =
    leaves_tables (channel_in before.machine c).is_retired c before after leaves.leaves
leave_tables c (Err cause) before after leaves same = ap (λ b. b.tables) same

step_tables : (quota : ℕ) (answer : Done) (before after : Book) → StepsNext quota answer before after
    → after.tables ≡ before.tables
step_tables quota answer before after steps =
    commit_tables steps.process steps.advance answer steps.between after steps.commits
    ∙ ap (λ b. b.tables) steps.steps.claimed.same

turns_tables : (quota : ℕ) (first : Book) (n : ℕ) (after : Book) → TurnsFrom quota first n after
    → after.tables ≡ first.tables
turns_tables quota first _ _ no_turn = refl
turns_tables quota first _ _ (one_turn_more before after answer turns step) =
    step_tables quota answer before after step ∙ turns_tables quota first _ before turns

vain_tables : (quota : ℕ) (before after : Book) → StepsInVain quota before after → after.tables ≡ before.tables
vain_tables quota before after vain =
    ap (λ b. b.tables) vain.back ∙ ap (λ b. b.tables) vain.steps.claimed.same

stops_tables : (is_refused : Bool) (quota most made : ℕ) (last after : Book)
    → stops_by is_refused quota most made last after → after.tables ≡ last.tables
stops_tables false quota most made last after stops = ap (λ b. b.tables) stops.0
stops_tables true quota most made last after stops = vain_tables quota last after stops

pub steps_tables : (quota most : ℕ) (stepped : StepCount) (before after : Book)
    → StepsEach quota most stepped before after → after.tables ≡ before.tables
steps_tables quota most stepped before after steps =
    stops_tables stepped.is_refused quota most stepped.commits steps.last after steps.stops
    ∙ turns_tables quota before stepped.commits steps.last steps.turns

taking_tables : (item : Option ℤ) (c : ℕ) (before after : Book) → takes_item c item before after
    → after.tables ≡ before.tables
taking_tables None c before after is = ap (λ b. b.tables) is.1
taking_tables (Some v) c before after is = happens_tables (Take c v) before after is.1

takes_tables : (first : Book) (asked kept : List Wanted) (last : Book) → TakesForEach first asked kept last
    → last.tables ≡ first.tables
takes_tables first _ _ _ no_take = refl
takes_tables first _ _ _ (one_take_more {asked} {kept} w item before after so_far next) =
    taking_tables item w.channel before after next.takes ∙ takes_tables first asked kept before so_far

steps_if_tables : (goes_on : Bool) (quota most : ℕ) (stepped : StepCount) (before after : Book)
    → steps_if goes_on quota most stepped before after → after.tables ≡ before.tables
steps_if_tables false quota most stepped before after is = ap (λ b. b.tables) is.1
steps_if_tables true quota most stepped before after is = steps_tables quota most stepped before after is

takes_if_tables : (goes_on : Bool) (taken : Taken) (asked kept : List Wanted) (before after : Book)
    → takes_if goes_on taken asked kept before after → after.tables ≡ before.tables
takes_if_tables false taken asked kept before after is = ap (λ b. b.tables) is.2
takes_if_tables true taken asked kept before after is = takes_tables before _ _ after is.takes

pub moves_tables : (items : List SourceItem) (quota most : ℕ) (moved : Moved) (asked kept : List Wanted)
    (before after : Book) → Moves items quota most moved asked kept before after → after.tables ≡ before.tables
moves_tables items quota most moved asked kept before after moves =
    takes_if_tables (has_stepped moved) moved.taken asked kept moves.stepped after moves.takes
    ∙ steps_if_tables (has_fed moved) quota most moved.stepped moves.fed moves.stepped moves.steps
    ∙ all_tables (map feed_of (take moved.fed.count items)) before moves.fed moves.feeds.feeds
