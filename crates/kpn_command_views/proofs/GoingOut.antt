-- A text that goes out while it is made.
use Rattle.kpn_command_views.proofs.Common.{◌≡◌, ℕ, ◌+◌, ◌-◌, ◌≤◌, List, [], ◌++◌, length, take, drop, Option, refl, sym, ap, ◌∙◌, subst, append_assoc, drop_of_length-le, arith, Appends, IsSentWhole, each_below, counter_line, read_lines, counter_lines}
use Rattle.std.proofs.KnownBytes.{Appends-nil, Appends-trans}
use Rattle.std.proofs.lemmas.List.{append-nil, take_all, length-drop}
use Rattle.kpn_command_views.proofs.TimelineLines.{each_next}

-- ---- what was sent

pub none_sent : (a : Option (List ℕ)) (x : List ℕ) → IsSentWhole a a x x
none_sent a x = record { sent = []; grows = Appends-nil a; kept = refl }

pub whole_sent : (a b : Option (List ℕ)) (x y : List ℕ) → Appends a b x → y ≡ [] → IsSentWhole a b y (x ++ [])
whole_sent a b x y grows none = record { sent = x; grows = grows; kept = ap (λ r. x ++ r) none }

pub none_sent_more : (a : Option (List ℕ)) (x : List ℕ) → IsSentWhole a a x (x ++ [])
none_sent_more a x = subst (IsSentWhole a a x) (sym (append-nil x)) (none_sent a x)

pub nothing_to_come : (a b : Option (List ℕ)) (x r w : List ℕ) → IsSentWhole a b (x ++ r) w → r ≡ []
    → IsSentWhole a b x w
nothing_to_come a b x r w sent none =
    subst (λ y. IsSentWhole a b y w) (ap (λ s. x ++ s) none ∙ append-nil x) sent

-- more of the text, of which a part may go out
pub goes_on : (a b c : Option (List ℕ)) (x w y l : List ℕ) → IsSentWhole a b x w → IsSentWhole b c y (x ++ l)
    → IsSentWhole a c y (w ++ l)
goes_on a b c x w y l was more =
    record {
      sent = was.sent ++ more.sent;
      grows = Appends-trans a b c was.sent more.sent was.grows more.grows;
      kept =
          append_assoc was.sent more.sent y ∙ ap (λ s. was.sent ++ s) more.kept ∙ sym (append_assoc was.sent x l)
          ∙ ap (λ s. s ++ l) was.kept;
    }

-- the same before what is to come
pub step : (a b c : Option (List ℕ)) (x r w m s y : List ℕ) → IsSentWhole a b (x ++ r) w → m ++ s ≡ x ++ r
    → IsSentWhole b c y m → IsSentWhole a c (y ++ s) w
step a b c x r w m s y was same more =
    record {
      sent = was.sent ++ more.sent;
      grows = Appends-trans a b c was.sent more.sent was.grows more.grows;
      kept =
          append_assoc was.sent more.sent (y ++ s)
          ∙ ap (λ t. was.sent ++ t) (sym (append_assoc more.sent y s) ∙ ap (λ t. t ++ s) more.kept ∙ same) ∙ was.kept;
    }

pub with_nothing : (a b : Option (List ℕ)) (x y : List ℕ) → IsSentWhole a b y (x ++ []) → IsSentWhole a b y x
with_nothing a b x y sent = subst (IsSentWhole a b y) (append-nil x) sent

-- ---- the parts of a timeline

pub one_number_more : (a b c : Option (List ℕ)) (line : ℕ → List ℕ) (n : ℕ) (x first y l : List ℕ)
    → IsSentWhole a b x (first ++ each_below n line) → IsSentWhole b c y (x ++ l) → l ≡ line n
    → IsSentWhole a c y (first ++ each_below (n + 1) line)
one_number_more a b c line n x first y l was more is =
    subst (IsSentWhole a c y)
    (append_assoc first (each_below n line) l
    ∙ ap (λ t. first ++ (each_below n line ++ t)) is ∙ ap (λ t. first ++ t) (sym (each_next n line)))
    (goes_on a b c x (first ++ each_below n line) y l was more)

pub write_sent : (a b c : Option (List ℕ)) (first x y z name : List ℕ) (unread now gone before tick : ℕ)
    (reads : List ℕ) → IsSentWhole a b x (first ++ read_lines name unread (take gone reads))
    → y ≡ x ++ counter_line name tick now → IsSentWhole b c z (y ++ []) → gone ≡ before → now ≡ unread - gone + 1
    → IsSentWhole a c z
    (first ++ (read_lines name unread (take before reads) ++ counter_line name tick (unread - before + 1)))
write_sent a b c first x y z name unread now gone before tick reads was added more is left =
    let lines = read_lines name unread (take gone reads) in
    let behind : IsSentWhole b c z (x ++ counter_line name tick now) =
    subst (IsSentWhole b c z) added (with_nothing b c y z more) in
    subst (IsSentWhole a c z)
    (append_assoc first lines (counter_line name tick now)
    ∙ ap (λ n. first ++ (lines ++ counter_line name tick n)) left
    ∙ ap (λ g. first ++ (read_lines name unread (take g reads) ++ counter_line name tick (unread - g + 1))) is)
    (goes_on a b c x (first ++ lines) z (counter_line name tick now) was behind)

pub counters_done : (a b c : Option (List ℕ)) (x w y name : List ℕ) (unread k place : ℕ) (written reads : List ℕ)
    → IsSentWhole a b (x ++ counter_lines name unread (drop k written) (drop place reads)) w → length written ≤ k
    → place ≤ length reads
    → IsSentWhole b c y (x ++ read_lines name unread (take (length reads - place) (drop place reads)))
    → IsSentWhole a c y w
counters_done a b c x w y name unread k place written reads was past there more =
    let rest = drop place reads in
    let all : take (length reads - place) rest ≡ rest =
    take_all (length reads - place) rest (omega (arith, length-drop place reads, there)) in
    let last : IsSentWhole a b (x ++ read_lines name unread rest) w =
    subst (λ (ws : List ℕ). IsSentWhole a b (x ++ counter_lines name unread ws rest) w) (drop_of_length-le written past)
    was in
    let sent : IsSentWhole b c y (x ++ read_lines name unread rest) =
    subst (λ (rs : List ℕ). IsSentWhole b c y (x ++ read_lines name unread rs)) all more in
    nothing_to_come a c y [] w
    (step a b c x (read_lines name unread rest) w (x ++ read_lines name unread rest) [] y last
    (append-nil (x ++ read_lines name unread rest)) sent)
    refl

-- the whole
pub timeline_sent : (a b c d : Option (List ℕ)) (t x w y z front E W C waits told Z : List ℕ) → t ≡ front
    → IsSentWhole a b x (t ++ E) → w ≡ x ++ waits → waits ≡ W → IsSentWhole b c y (w ++ told) → told ≡ C → z ≡ y ++ Z
    → Appends c d z → Appends a d (front ++ E ++ W ++ C ++ Z)
timeline_sent a b c d t x w y z front E W C waits told Z is events waited as_waited channels as_told added last =
    let waiting : IsSentWhole b b w (x ++ waits) = subst (IsSentWhole b b w) waited (none_sent b w) in
    let before = goes_on a b b x (t ++ E) w waits events waiting in
    let sent = goes_on a b c w (t ++ E ++ waits) y told before channels in
    subst (Appends a d)
    (ap (λ s. sent.sent ++ s) added ∙ sym (append_assoc sent.sent y Z) ∙ ap (λ s. s ++ Z) sent.kept
    ∙ ap (λ s. s ++ E ++ waits ++ told ++ Z) is ∙ ap (λ s. front ++ E ++ s ++ told ++ Z) as_waited
    ∙ ap (λ s. front ++ E ++ W ++ s ++ Z) as_told)
    (Appends-trans a c d sent.sent z sent.grows last)
