-- Lists with an entry for each channel, by the channels or by their numbers.
use Rattle.kpn_machine.proofs.Common.{◌≡◌, ℕ, ◌+◌, ◌<◌, List, [], ◌∷◌, ◌++◌, length, map, None, false, sym, ap, ◌∙◌, subst, arith, range_with_len, ext_get_or, length-map, get_or-map, length-map-range_with_len, get_or-map-range_with_len, map-range_with_len_more, ChannelState, opened, Machine, channel_in}

pub by_number : {A : Type 0} (f : ChannelState → A) (s : Machine) (n : ℕ) → n ≡ length s.channels
    → map f s.channels ≡ map (λ c. f (channel_in s c)) (range_with_len 0 n)
by_number f s n long =
    let d = opened None false in
    ext_get_or (f d) (map f s.channels) (map (λ c. f (channel_in s c)) (range_with_len 0 n))
    (length-map s.channels f ∙ sym long ∙ sym (length-map-range_with_len (λ c. f (channel_in s c)) 0 n))
    (λ i below.
    let there : i < length s.channels = subst (λ k. i < k) (length-map s.channels f) below in
    get_or-map f s.channels i d (f d) there
    ∙ sym (get_or-map-range_with_len (λ c. f (channel_in s c)) 0 n i i (f d) (subst (λ k. i < k) (sym long) there)
    (omega arith)))

-- one entry more
pub one_more : {A : Type 0} (f : ℕ → A) (n : ℕ) (xs more : List A) → xs ≡ map f (range_with_len 0 n)
    → more ≡ xs ++ f n ∷ [] → more ≡ map f (range_with_len 0 (n + 1))
one_more f n xs more so_far added =
    added ∙ ap (λ ys. ys ++ f n ∷ []) so_far ∙ sym (map-range_with_len_more f 0 n n (omega arith))
