-- What channels keep.
use Rattle.kpn_machine.proofs.Common.{◌≡◌, ℕ, zero, suc, ◌<◌, ◌∙◌, Bool, true, false, ◌&&◌, if◌then◌else◌, List, [], ◌∷◌, length, map, get_or, refl, ap, arith, ChannelState, kept_journal, are_kept}

-- if all are kept, the first is, and the rest are
parts : (b rest : Bool) → (b && rest) ≡ true → (b ≡ true) × (rest ≡ true)
parts true rest e = (refl, e)
parts false rest e = absurd cc

-- the journal of each is as it was put, if each is kept
pub kept_journals : (channels : List ChannelState) → are_kept channels ≡ true
    → map kept_journal channels ≡ map (λ (channel : ChannelState). channel.journal) channels
kept_journals [] kept = refl
kept_journals (channel ∷ rest) kept =
    let both = parts channel.is_kept (are_kept rest) kept in
    ap (λ b. (if b then channel.journal else []) ∷ map kept_journal rest) both.0
    ∙ ap (λ js. channel.journal ∷ js) (kept_journals rest both.1)

-- if each is kept by its number, all are
pub all_are_kept : (channels : List ChannelState) (d : ChannelState)
    → ((c : ℕ) → c < length channels → (get_or channels c d).is_kept ≡ true) → are_kept channels ≡ true
all_are_kept [] d each = refl
all_are_kept (channel ∷ rest) d each =
    ap (λ b. b && are_kept rest) (each zero (omega arith))
    ∙ all_are_kept rest d (λ c below. each (suc c) (omega (arith, below)))
