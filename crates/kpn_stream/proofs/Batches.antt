-- A source that is read on while its items are at hand.
use Rattle.std.proofs.Common.{◌≡◌, ℕ, ◌+◌, ◌<◌, true, false, IfNone, ℤ, List, [], ◌∷◌, ◌++◌, IfSome, Option, Some, None, Result, Ok, refl, sym, ap, ◌∙◌, subst, append-nil, append_assoc, length-append, arith}
use Rattle.kpn_stream.proofs.Common.{map, eq-eqb, false≢true, or_right, map-append, Tables, Event, Feed, Close, is_closed, is_close_of, is_closed-next, Book, Happens, happens_history, SourceFault, StreamEnding, MOST_AT_ONCE, MayRead, MayReadItem, AreTaken, ReadsSource, ReadsInTurn, none_yet_read, once_more_read, WasRead, IsUnfed}
use Rattle.kpn_stream.proofs.Closes.{closed_on}
use Rattle.kpn_stream.proofs.Handling.{reads_item}

-- the item of a device that may be asked may be read
pub item_due : (t : Tables) (H : List Event) (c : ℕ) → MayRead t H c → MayReadItem t H c
item_due t H c may = record {
  before = H;
  due = may;
  items = [];
  since = sym (append-nil H);
  few = omega arith;
}

-- the first item was read
pub read_once : (c : ℕ) (v : ℤ) (before after : Book) → MayRead before.tables before.history c
    → after.tables ≡ before.tables → after.history ≡ before.history ++ Feed c v ∷ [] → AreTaken after.tables after.history
    → WasRead c 1 after
read_once c v before after may same is taken = record {
  before = before.history;
  due = subst (λ t. MayRead t before.history c) (sym same) may;
  items = v ∷ [];
  since = is;
  times = refl;
  taken = taken;
}

-- once a device has given an item that was fed
pub fed_once : (c : ℕ) (v : ℤ) (ended : Option StreamEnding) (before after : Book)
    → MayRead before.tables before.history c → after.tables ≡ before.tables → AreTaken after.tables after.history
    → IfNone ended (after.history ≡ before.history ++ Feed c v ∷ [])
    → IfNone ended (is_closed after.history c ≡ false → WasRead c 1 after)
fed_once c v None before after may same taken is = λ still. read_once c v before after may same is taken
fed_once c v (Some ending) before after may same taken is = tt

-- once the source is closed
pub closed_once : (c : ℕ) (ended : Option StreamEnding) (before after : Book)
    → IfNone ended (Happens (Close c) before after)
    → IfNone ended (is_closed after.history c ≡ false → WasRead c 1 after)
closed_once c None before after is = λ still.
    let here : is_closed (before.history ++ Close c ∷ []) c ≡ true =
    is_closed-next before.history (Close c) c
    ∙ or_right (is_closed before.history c) (is_close_of c (Close c)) (eq-eqb c c refl) in
    let then : is_closed after.history c ≡ true =
    ap (λ H. is_closed H c)
    (happens_history (Close c) before after is ∙ sym (append_assoc before.history (Close c ∷ []) is.growth))
    ∙ closed_on is.growth (before.history ++ Close c ∷ []) c here in
    absurd (false≢true (sym still ∙ then))
closed_once c (Some ending) before after is = tt

-- one item more was read
pub read_again : (c n : ℕ) (v : ℤ) (before after : Book) → WasRead c n before → after.tables ≡ before.tables
    → after.history ≡ before.history ++ Feed c v ∷ [] → AreTaken after.tables after.history → WasRead c (n + 1) after
read_again c n v before after so_far same is taken = record {
  before = so_far.before;
  due = subst (λ t. MayRead t so_far.before c) (sym same) so_far.due;
  items = so_far.items ++ v ∷ [];
  since =
      is ∙ ap (λ H. H ++ Feed c v ∷ []) so_far.since
      ∙ append_assoc so_far.before (map (Feed c) so_far.items) (Feed c v ∷ [])
      ∙ ap (λ es. so_far.before ++ es) (sym (map-append (Feed c) so_far.items (v ∷ [])));
  times = let many = so_far.times in let one = length-append so_far.items (v ∷ []) in omega arith;
  taken = taken;
}

-- so the next one may be read
pub may_again : (c n : ℕ) (b : Book) → n < MOST_AT_ONCE → WasRead c n b → MayReadItem b.tables b.history c
may_again c n b few so_far = record {
  before = so_far.before;
  due = so_far.due;
  items = so_far.items;
  since = so_far.since;
  few = let many = so_far.times in omega arith;
}

module _ {S : Type 0} (gives : S → ℕ → Result (Option ℤ) SourceFault → S → Type 0) (looks : S → ℕ → S → Type 0)
    (at_hand : S → ℕ → Type 0) (c : ℕ) where
  -- reads after reads
  pub in_turn : (first between : Book) (sources s : S) → ReadsInTurn gives looks at_hand c first sources None between s
      → {ended : Option StreamEnding} {after : Book} {read : S}
      → ReadsInTurn gives looks at_hand c between s ended after read
      → ReadsInTurn gives looks at_hand c first sources ended after read
  in_turn first between sources s one none_yet_read = one
  in_turn first between sources s one (once_more_read ended before after r read so_far hand reads) =
      once_more_read ended before after r read (in_turn first between sources s one so_far) hand reads

  -- what was taken stays taken
  pub in_turn_taken : (first : Book) (sources : S) {ended : Option StreamEnding} {after : Book} {read : S}
      → ReadsInTurn gives looks at_hand c first sources ended after read → AreTaken first.tables first.history
      → AreTaken after.tables after.history
  in_turn_taken first sources none_yet_read taken = taken
  in_turn_taken first sources (once_more_read ended before after s read so_far hand reads) taken = reads.taken

  -- one item more is read at hand
  module _ (n : ℕ) (v : ℤ) (ended : Option StreamEnding) (before after : Book) (s read : S) (few : n < MOST_AT_ONCE)
      (was_read : WasRead c n before) (gave : gives s c (Ok (Some v)) read)
      (fed : IfNone ended (Happens (Feed c v) before after)) (unfed : IfSome ended (IsUnfed c before after)) where
    reads : ReadsSource gives looks c ended before after s read
    reads =
        reads_item gives looks c before s read was_read.taken (may_again c n before few was_read)
        was_read.due.may_feed.source v ended after gave fed unfed

    pub one_more_read : (first : Book) (sources : S) → ReadsInTurn gives looks at_hand c first sources None before s
        → at_hand s c → ReadsInTurn gives looks at_hand c first sources ended after read
    one_more_read first sources so_far hand = once_more_read ended before after s read so_far hand reads

    pub read_then : ended ≡ None → IfNone ended (after.history ≡ before.history ++ Feed c v ∷ []) → WasRead c (n + 1) after
    read_then on is =
        read_again c n v before after was_read reads.besides.tables
        (subst (λ e. IfNone e (after.history ≡ before.history ++ Feed c v ∷ [])) on is) reads.taken
