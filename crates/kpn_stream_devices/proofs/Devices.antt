-- What reads and writes do to inputs and outputs.
use Rattle.std.specs.Vec.{with_item}
use Rattle.std.specs.Global.{Vec}
use Rattle.std.specs.Prelude.{slice_set}
use Rattle.kpn_stream_devices.proofs.Common.{ℕ_set, set-get_or, Keeps, Consumes, Appends, prepend_known, append_known, Keeps-trans, Keeps-refl, Appends-kept, append_known-grown, true≢false, OutputFormat, SourceFault, SinkFault, HasText, item_bytes, text_of, written_item, Window, FormatGives, WavGives, CountsUsed, HeadNeedsMore, IfKnown, WindowGives, IsEndKnown, NeedsMore, WindowTells, left_of, Head, Open, Bad, Whole, head_at, SourceInputs, SourceInput, device_left, most_read, HasReadOn, InputGives, IsInputAsked, IsSparing, HaveMoved, FailsToRead, ReadsOnly, WaitsForDevice, kept_fault, HandsOn, KeepsFew, TakesItem}
use Rattle.std.proofs.Common.{◌≡◌, ℕ, ◌≤◌, false, List, [], ◌++◌, length, Option, Some, None, Result, Ok, Err, refl, sym, ap, ◌∙◌, subst, arith, append_assoc, inl, inr, IfSome, get_or}
use Rattle.std.specs.Prelude.{ℤ}
use Rattle.kpn_stream_devices.specs.declared.formats.ItemFormat.{ItemFormat}
use Rattle.kpn_stream_devices.specs.declared.formats.ItemFormat.TheVariants.{Lines, Samples, Wav}
use Rattle.kpn_stream.specs.declared.faults.SourceFault.TheVariants.{Read, NoMemory}
use Rattle.kpn_stream.specs.declared.faults.SinkFault.TheVariants.{Gone, NoSample, Write}
use Rattle.kpn_stream.specs.declared.faults.SinkFault.TheVariants as sink_fault
use Rattle.kpn_stream_devices.specs.declared.head.Wav.{Wav as Left}
use Rattle.kpn_stream_devices.specs.declared.inputs.Failed.{Failed}
use Rattle.kpn_stream_devices.specs.declared.inputs.Failed.TheVariants as look_fault

-- ---- inputs

-- an input is open whose bytes are too few
pub needs_open : (format : ItemFormat) (w : Window) → NeedsMore format w → w.is_over ≡ false
needs_open Lines w needs = needs.0
needs_open (Samples sample) w needs = needs.0
needs_open (Wav written) w needs = needs.0

-- nothing is said of the device of an open input
pub not_over : (w : Window) (device : Option (List ℕ)) → w.is_over ≡ false → IsEndKnown w device
not_over w device is over = absurd (true≢false (sym over ∙ is))

-- this many bytes moved from the device to the window
pub moved : (us vs bytes : List ℕ) (device read : Option (List ℕ)) → vs ≡ us ++ bytes → Consumes device read bytes
    → Keeps (prepend_known us device) (prepend_known vs read)
moved us vs bytes None read is took = tt
moved us vs bytes (Some ds) None is took = absurd took
moved us vs bytes (Some ds) (Some es) is took =
    ap (λ bs. bs ++ es) is ∙ append_assoc us bytes es ∙ ap (λ bs. us ++ bs) (sym took)

-- nothing moved
pub stayed : (us : List ℕ) (device read : Option (List ℕ)) → Keeps device read
    → Keeps (prepend_known us device) (prepend_known us read)
stayed us None read kept = tt
stayed us (Some ds) None kept = absurd kept
stayed us (Some ds) (Some es) kept = ap (λ bs. us ++ bs) kept

if_after : (P : List ℕ → List ℕ → Type 0) (a b c : Option (List ℕ)) → Keeps a b → IfKnown b c P → IfKnown a c P
if_after P None b c kept known = tt
if_after P (Some xs) None c kept known = absurd kept
if_after P (Some xs) (Some ys) None kept known = absurd known
if_after P (Some xs) (Some ys) (Some zs) kept known = subst (λ bs. P bs zs) kept known

-- the answer is right for the input as it was before some bytes moved
pub gives_after : (format : ItemFormat) (first w after : Window) (device between read : Option (List ℕ))
    (answer : Result (Option ℤ) SourceFault) → w.wav ≡ first.wav → Keeps (left_of first device) (left_of w between)
    → WindowGives format w between answer after read → WindowGives format first device answer after read
gives_after format first w after device between read answer same kept given =
    if_after (λ left rest. FormatGives format first.wav left after.wav rest answer) (left_of first device)
    (left_of w between) (left_of after read) kept
    (subst (λ (wav : Option Left). IfKnown (left_of w between) (left_of after read)
    (λ left rest. FormatGives format wav left after.wav rest answer)) same given)

-- the count goes on from those that were used before some bytes moved
counts_after : (answer : Result (Option ℤ) SourceFault) (first used now : ℕ) → used ≡ first → CountsUsed answer used now
    → CountsUsed answer first now
counts_after answer first used now same counts = subst (λ (n : ℕ). CountsUsed answer n now) same counts

if_kept : (P : List ℕ → List ℕ → Type 0) → ((xs ys : List ℕ) → P xs ys) → (a b : Option (List ℕ)) → Keeps a b
    → IfKnown a b P
if_kept P all None b kept = tt
if_kept P all (Some xs) None kept = absurd kept
if_kept P all (Some xs) (Some ys) kept = all xs ys

-- of a fault of a device or of memory nothing is said
wav_any : (head : Head) (failed : Failed) (after : Option Left) (xs ys : List ℕ)
    → WavGives head xs after ys (Err (kept_fault failed))
wav_any Open look_fault.Read after xs ys = tt
wav_any Open look_fault.NoMemory after xs ys = tt
wav_any (Bad at) look_fault.Read after xs ys = tt
wav_any (Bad at) look_fault.NoMemory after xs ys = tt
wav_any (Whole count wav) look_fault.Read after xs ys = (tt, tt)
wav_any (Whole count wav) look_fault.NoMemory after xs ys = (tt, tt)

pub fault_any : (format : ItemFormat) (failed : Failed) (before after : Option Left) (xs ys : List ℕ)
    → FormatGives format before xs after ys (Err (kept_fault failed))
fault_any Lines look_fault.Read before after xs ys = tt
fault_any Lines look_fault.NoMemory before after xs ys = tt
fault_any (Samples sample) look_fault.Read before after xs ys = tt
fault_any (Samples sample) look_fault.NoMemory before after xs ys = tt
fault_any (Wav written) failed before after xs ys = wav_any (head_at before xs) failed after xs ys

-- it uses nothing
pub fault_counts : (failed : Failed) (used now : ℕ) → now ≡ used → CountsUsed (Err (kept_fault failed)) used now
fault_counts look_fault.Read used now same = same
fault_counts look_fault.NoMemory used now same = same

-- a device that fails may do so at any time
pub device_fails : (format : ItemFormat) (failed : Failed) (first after : Window) (device read : Option (List ℕ))
    → Keeps (left_of first device) (left_of after read)
    → WindowGives format first device (Err (kept_fault failed)) after read
device_fails format failed first after device read kept =
    if_kept (λ left rest. FormatGives format first.wav left after.wav rest (Err (kept_fault failed)))
    (fault_any format failed first.wav after.wav) (left_of first device) (left_of after read) kept

-- ---- no more is read than is needed

-- too few bytes are too few in the window that had them, if that is open
needs_same : (format : ItemFormat) (w first : Window) → first.is_over ≡ false → w.wav ≡ first.wav → NeedsMore format w
    → NeedsMore format (record first { unused = w.unused })
needs_same Lines w first is_open same needs = (is_open, needs.1, needs.2)
needs_same (Samples sample) w first is_open same needs = (is_open, needs.1)
needs_same (Wav written) w first is_open same needs =
    (is_open, subst (λ (wav : Option Left). HeadNeedsMore (head_at wav w.unused) w.unused) same needs.1)

-- bytes that a read took from its device, of which it may keep none
abbrev pub Lost : (before left : List ℕ) → Type 0
Lost before left = (last : List ℕ) × (before ≡ last ++ left) × (length last ≤ most_read)

pub lost_none : (before left : Option (List ℕ)) → Keeps before left → IfKnown before left Lost
lost_none None left kept = tt
lost_none (Some ds) None kept = absurd kept
lost_none (Some ds) (Some es) kept = ([], sym kept, omega arith)

-- what was seen, and what is left
spared : (P : List ℕ → Type 0) (us vs : List ℕ) (device between : Option (List ℕ))
    → Keeps (prepend_known us device) (prepend_known vs between) → P vs
    → IfKnown (prepend_known us device) between (λ all rest. (seen : List ℕ) × (all ≡ seen ++ rest) × P seen)
spared P us vs None between kept is = tt
spared P us vs (Some ds) None kept is = absurd kept
spared P us vs (Some ds) (Some es) kept is = (vs, sym kept, is)

spared_lost : (P : List ℕ → Type 0) (us vs : List ℕ) (device between read : Option (List ℕ))
    → Keeps (prepend_known us device) (prepend_known vs between) → IfKnown between read Lost
    → ((last : List ℕ) → length last ≤ most_read → P (vs ++ last))
    → IfKnown (prepend_known us device) read (λ all rest. (seen : List ℕ) × (all ≡ seen ++ rest) × P seen)
spared_lost P us vs None between read kept lost is = tt
spared_lost P us vs (Some ds) None read kept lost is = absurd kept
spared_lost P us vs (Some ds) (Some es) None kept lost is = absurd lost
spared_lost P us vs (Some ds) (Some es) (Some fs) kept lost is = (
  vs ++ lost.0,
  sym kept ∙ ap (λ bs. vs ++ bs) lost.1 ∙ sym (append_assoc vs lost.0 fs),
  is lost.0 lost.2,
)

-- an input does not wait for its device once a look has failed
pub none_is_some : (failed : Failed) → ◌≡◌ {A = Option Failed} None (Some failed) → ⊥
none_is_some failed same = absurd cc

not_waiting : {F : Type 0} (input : SourceInput F) (failed : Failed) → input.failed ≡ Some failed
    → WaitsForDevice input → ⊥
not_waiting input failed is waits = none_is_some failed (sym waits.1 ∙ is)

module _ {I F : Type 0} (left : I → Option (List ℕ)) (left_in : F → Option (List ℕ)) where
  -- a call reads only the device of an input, and so do two calls
  reads_none : (standard : I) (file : Option F) → ReadsOnly standard standard file file
  reads_none standard None = tt
  reads_none standard (Some file) = refl

  reads_more : (first between read : I) (file then after : Option F) → ReadsOnly first between file then
      → ReadsOnly between read then after → ReadsOnly first read file after
  reads_more first between read None None None one two = tt
  reads_more first between read None None (Some after) one two = absurd two
  reads_more first between read None (Some then) after one two = absurd one
  reads_more first between read (Some file) None after one two = absurd one
  reads_more first between read (Some file) (Some then) None one two = absurd two
  reads_more first between read (Some file) (Some then) (Some after) one two = two ∙ one

  module _ (first : I) (input : SourceInput F) where
    -- So far bytes have moved from the device to the window, and none if the answer was at hand.
    pub at_start : IsInputAsked left left_in first input first input
    at_start = record {
      moved = record {
        channel = refl;
        format = refl;
        only = reads_none first input.file;
        used = refl;
        wav = refl;
        kept = Keeps-refl _;
        known = λ known. known;
        failed = refl;
      };
      sparing = inl refl;
      was_open = λ is_open. is_open;
      at_hand = λ at_hand. (refl, refl);
    }

    module _ (between : I) (moved : SourceInput F) (so_far : IsInputAsked left left_in first input between moved) where
      -- the bytes tell the answer
      pub told_after : (answer : Result (Option ℤ) SourceFault) (w : Window)
          → WindowTells moved.format moved.window answer w
          → w.is_over ≡ moved.window.is_over
          → InputGives left left_in first input answer between (record moved { window = w })
      told_after answer w tells same = record {
        channel = so_far.moved.channel;
        format = so_far.moved.format;
        only = so_far.moved.only;
        counted = counts_after answer _ _ _ so_far.moved.used tells.counted;
        known = λ known over. so_far.moved.known known (sym same ∙ over);
        given = λ known. gives_after input.format input.window moved.window w _ _ _ answer so_far.moved.wav
            so_far.moved.kept
            (subst
            (λ (f : ItemFormat). WindowGives f moved.window (device_left left left_in between moved.file) answer w
            (device_left left left_in between moved.file)) so_far.moved.format
            (tells.given _ (so_far.moved.known known)));
        sparing = spared (IsSparing input.format input.window) _ _ _ _ so_far.moved.kept so_far.sparing;
        at_hand = λ at_hand.
            let is = so_far.at_hand at_hand in (is.0, ap (λ (i : SourceInput F). i.file) is.1);
        failed = so_far.moved.failed;
        told = λ failed is.
            let same = (so_far.at_hand (not_waiting input failed is)).1 in
            inr (subst (λ (i : SourceInput F). WindowTells i.format i.window answer w) same tells);
      }

      -- after too many reads
      pub fails_at_last : input.failed ≡ None → InputGives left left_in first input (Err Read) between moved
      fails_at_last unfailed = record {
        channel = so_far.moved.channel;
        format = so_far.moved.format;
        only = so_far.moved.only;
        counted = fault_counts look_fault.Read _ _ so_far.moved.used;
        known = so_far.moved.known;
        given = λ known. device_fails input.format look_fault.Read input.window moved.window _ _ so_far.moved.kept;
        sparing = spared (IsSparing input.format input.window) _ _ _ _ so_far.moved.kept so_far.sparing;
        at_hand = λ at_hand.
            let is = so_far.at_hand at_hand in (is.0, ap (λ (i : SourceInput F). i.file) is.1);
        failed = so_far.moved.failed;
        told = λ failed is. absurd (none_is_some failed (sym unfailed ∙ is));
      }

      -- the bytes tell nothing yet
      module _ (w : Window) (same : w ≡ moved.window) (needs : NeedsMore moved.format moved.window) (read : I)
          (after : SourceInput F) where
        -- so the first ones told nothing, and the answer was at hand only if a look had failed
        needed : (WaitsForDevice input → ⊥) → input.failed ≡ None → ⊥
        needed at_hand none =
            at_hand (subst (λ (i : SourceInput F). NeedsMore i.format i.window) (so_far.at_hand at_hand).1 needs, none)

        -- so the bytes that were there need more, and those of one read may follow
        needs_first : (last : List ℕ) → length last ≤ most_read
            → IsSparing input.format input.window (moved.window.unused ++ last)
        needs_first last few = inr (
          moved.window.unused,
          last,
          refl,
          few,
          needs_same input.format moved.window input.window
              (so_far.was_open (needs_open moved.format moved.window needs)) so_far.moved.wav
              (subst (λ (f : ItemFormat). NeedsMore f moved.window) so_far.moved.format needs),
        )

        -- some more move
        pub more_after : HaveMoved left left_in between (record moved { window = w }) read after → HasReadOn w after.window
            → moved.failed ≡ None → IsInputAsked left left_in first input read after
        more_after more grows none =
            let next = subst (λ (x : Window). HaveMoved left left_in between (record moved { window = x }) read after) same more in
            record {
              moved = record {
                channel = next.channel ∙ so_far.moved.channel;
                format = next.format ∙ so_far.moved.format;
                only = reads_more first between read input.file moved.file after.file so_far.moved.only next.only;
                used = next.used ∙ so_far.moved.used;
                wav = next.wav ∙ so_far.moved.wav;
                kept = Keeps-trans _ _ _ so_far.moved.kept next.kept;
                known = λ known. next.known (so_far.moved.known known);
                failed = next.failed ∙ so_far.moved.failed;
              };
              sparing =
                  subst (IsSparing input.format input.window)
                  (sym (grows.1 ∙ ap (λ (x : Window). x.unused ++ grows.0) same)) (needs_first grows.0 grows.2);
              was_open = λ is_open. so_far.was_open (needs_open moved.format moved.window needs);
              at_hand = λ at_hand.
                  absurd (needed at_hand (subst (λ
                  (i : SourceInput F). i.failed ≡ None) (so_far.at_hand at_hand).1 none));
            }

        -- the next read fails, or a look has failed
        pub fails_after : (fault : SourceFault)
            → FailsToRead left left_in between (record moved { window = w }) read after fault
            → InputGives left left_in first input (Err fault) read after
        fails_after fault fails =
            let last = subst (λ (x : Window). FailsToRead left left_in between (record moved { window = x }) read after fault) same fails in
            record {
              channel = last.channel ∙ so_far.moved.channel;
              format = last.format ∙ so_far.moved.format;
              only = reads_more first between read input.file moved.file after.file so_far.moved.only last.only;
              counted = counts_after (Err fault) _ _ _ so_far.moved.used last.counted;
              sparing =
                  spared_lost (IsSparing input.format input.window) _ _ _ _ _ so_far.moved.kept last.lost needs_first;
              known = λ known. last.known (so_far.moved.known known);
              given = λ known. gives_after input.format input.window moved.window after.window _ _ _ (Err fault)
                  so_far.moved.wav so_far.moved.kept (last.given input.format);
              at_hand = λ at_hand.
                  let is = so_far.at_hand at_hand in
                  let none = last.at_hand
                  (λ none. needed at_hand (subst (λ (i : SourceInput F). i.failed ≡ None) is.1 none)) in
                  (none.0 ∙ is.0, ap (λ (i : SourceInput F). i.file) (none.1 ∙ is.1));
              failed = last.failed ∙ so_far.moved.failed;
              told = λ failed is. inl (ap (λ (f : SourceFault). Err f) (last.told failed (so_far.moved.failed ∙ is)));
            }

  -- the bytes at hand tell an item
  pub told_at_hand : (standard : I) (input : SourceInput F) (item : Option ℤ) (w : Window)
      → IfSome item (λ v. WindowTells input.format input.window (Ok (Some v)) w) → w.is_over ≡ input.window.is_over
      → IfSome item (λ v. InputGives left left_in standard input (Ok (Some v)) standard (record input { window = w }))
  told_at_hand standard input None w tells same = tt
  told_at_hand standard input (Some v) w tells same =
      told_after standard input standard input (at_start standard input) (Ok (Some v)) w tells same

-- a vector whose elements are as they were
as_it_was : {X : Type 0} (v : Vec X) (xs : List X) → v.items ≡ xs → (long : v.len ≡ length xs)
    → record v { items = xs; ok = (long, v.ok.1) } ≡ v
as_it_was v xs same =
    subst (λ ys. (long : v.len ≡ length ys) → record v { items = ys; ok = (long, v.ok.1) } ≡ v) same
    (λ long. ap (λ is. record v { items = v.items; ok = (is, v.ok.1) }) (ℕ_set v.len (length v.items) long v.ok.0))

-- an input is put back as it was
pub unchanged : {I F : Type 0} (inputs : SourceInputs I F) (i : ℕ) (input other : SourceInput F)
    → input ≡ get_or inputs.each.now.items i other
    → record inputs { each = record inputs.each { now = with_item inputs.each.now i input } } ≡ inputs
unchanged inputs i input other same =
    ap (λ x. record inputs { each = record inputs.each { now = with_item inputs.each.now i x } }) same
    ∙ ap (λ v. record inputs { each = record inputs.each { now = v } })
    (as_it_was inputs.each.now (slice_set inputs.each.now.items i (get_or inputs.each.now.items i other))
    (sym (set-get_or inputs.each.now.items i other))
    (with_item inputs.each.now i (get_or inputs.each.now.items i other)).ok.0)

-- ---- outputs

-- an item was put and kept, and what was kept is handed on
pub handed : (format : OutputFormat) (item written : ℤ) (before kept after : Option (List ℕ))
    (answer : Result (Unit {0}) SinkFault) (bytes : List ℕ) → HasText format item → written ≡ written_item format item
    → Appends before kept (item_bytes format.items written) → HandsOn answer bytes kept after
    → TakesItem format item answer before after
handed format item written before kept after (Ok done) bytes has is put on = (
  has,
  Appends-kept before kept after (text_of format item)
      (subst (λ (v : ℤ). Appends before kept (item_bytes format.items v)) is put) on.1,
)
handed format item written before kept after (Err Gone) bytes has is put on = tt
handed format item written before kept after (Err Write) bytes has is put on = tt
handed format item written before kept after (Err sink_fault.NoMemory) bytes has is put on = absurd on.1
handed format item written before kept after (Err (NoSample other)) bytes has is put on = absurd on.1

pub few_handed : (before after : Option (List ℕ)) (answer : Result (Unit {0}) SinkFault) (bytes : List ℕ)
    → HandsOn answer bytes before after → KeepsFew answer bytes
few_handed before after (Ok done) bytes on = omega (arith, ap length on.0)
few_handed before after (Err fault) bytes on = tt

-- bytes that are kept were put
pub kept_more : (device : Option (List ℕ)) (old new bytes : List ℕ) → new ≡ old ++ bytes
    → Appends (append_known device old) (append_known device new) bytes
kept_more device old new bytes is = append_known-grown (append_known device old) device old new bytes (Keeps-refl _) is

-- one more piece was put
pub joined : (old before so_far after value piece : List ℕ) → before ≡ old ++ so_far → value ≡ piece
    → after ≡ before ++ value → after ≡ old ++ (so_far ++ piece)
joined old before so_far after value piece is same more =
    more ∙ ap (λ bs. bs ++ value) is ∙ append_assoc old so_far value ∙ ap (λ bs. old ++ (so_far ++ bs)) same
