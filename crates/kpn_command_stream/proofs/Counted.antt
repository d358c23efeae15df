-- The counters of a channel are the lengths of its lists.
use Rattle.kpn_command_stream.proofs.Common.{◌≡◌, ◌∙◌, ℕ, ◌+◌, ◌<◌, ℤ, List, [], ◌∷◌, ◌++◌, length, drop, get_or, length-append, sym, ap, subst, arith, inl, inr, cases_lt, get_or_append_left, Book, IsBook, AreCounted, IsCounted}
use Rattle.std.proofs.Math.Seq.{drop-append_seam, get_or-append_seam}
use Rattle.kpn_history.specs.Channels.{written_on, read_on, unread_on}
use Rattle.kpn_machine.specs.Machine.{channel_in}
use Rattle.kpn_machine.proofs.Moments.{journal_now}
use Rattle.kpn_command_stream.specs.declared.counters.ChannelCounts.{ChannelCounts}

-- what of a channel is not read
abbrev pub rest_of : Book → (c : ℕ) → List ℤ
rest_of b c = drop (channel_in b.machine c).read (channel_in b.machine c).journal

-- what was written on a channel is what was read and then what is unread
written : (b : Book) → IsBook b → (c : ℕ) → c < length b.tables.channels
    → written_on b.history c ≡ read_on b.history c ++ rest_of b c
written b book c below =
    sym (book.kept.in_step.run.leads.channels c below).journal
    ∙ journal_now b.tables book.network b.history b.machine book.kept.in_step.run c below

-- this many items were put on it
pub put_is : (b : Book) → IsBook b → (c : ℕ) → c < length b.tables.channels → (read left : ℕ)
    → read ≡ length (read_on b.history c) → left ≡ length (rest_of b c)
    → read + left ≡ length (written_on b.history c)
put_is b book c below read left reads lefts =
    let items = read_on b.history c in
    ap (λ n. n + left) reads ∙ ap (λ n. length items + n) lefts ∙ sym (length-append items (rest_of b c))
    ∙ ap (λ (xs : List ℤ). length xs) (sym (written b book c below))

-- this many of them are unread
pub unread_is : (b : Book) → IsBook b → (c : ℕ) → c < length b.tables.channels → (left : ℕ)
    → left ≡ length (rest_of b c) → left ≡ length (unread_on b.history c)
unread_is b book c below left lefts =
    let items = read_on b.history c in
    lefts
    ∙ ap (λ (xs : List ℤ). length xs)
    (sym (ap (drop (length items)) (written b book c below) ∙ drop-append_seam items (rest_of b c)))

-- one channel more
pub counted_more : (b : Book) (counts : List ChannelCounts) (one : ChannelCounts) → AreCounted b counts
    → IsCounted b (length counts) one → AreCounted b (counts ++ one ∷ [])
counted_more b counts one are is = record {
  each = λ c other inside. elim (cases_lt c (length counts)) [
    | inl before ↦
        subst (IsCounted b c) (sym (get_or_append_left counts (one ∷ []) other c before)) (are.each c other before)
    | inr past ↦
        let last : c ≡ length counts = omega (arith, length-append counts (one ∷ []), inside, past) in
        subst (λ (n : ℕ). IsCounted b n (get_or (counts ++ one ∷ []) n other)) (sym last)
        (subst (IsCounted b (length counts)) (sym (get_or-append_seam counts one [] other)) is)
  ];
}
