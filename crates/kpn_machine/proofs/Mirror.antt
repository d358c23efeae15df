-- The second list of capacities: it stays the same if one channel becomes another of the same capacity.
use Rattle.kpn_machine.proofs.Common.{◌≡◌, ℕ, ap, sym, ◌∙◌, refl, Bool, true, false, cond, List, length, map, set, get_or, Some, map-set, length-map, unwrap_or, map-set_same, ChannelState, with_room}

capacities_kept : (channels : List ChannelState) (c : ℕ) (channel d : ChannelState)
    → channel.capacity ≡ (get_or channels c d).capacity
    → map (λ x. unwrap_or x.capacity 0) (set channels c channel) ≡ map (λ x. unwrap_or x.capacity 0) channels
capacities_kept channels c channel d same =
    map-set_same (λ x. unwrap_or x.capacity 0) channels c channel d (ap (λ o. unwrap_or o 0) same)

pub room_same : (b : Bool) (channel : ChannelState) → (cond b (with_room channel) channel).capacity ≡ channel.capacity
room_same true channel = refl
room_same false channel = refl

pub mirror_length : (channels : List ChannelState) (caps : List ℕ)
    → caps ≡ map (λ x. unwrap_or x.capacity 0) channels → length caps ≡ length channels
mirror_length channels caps mirror = ap length mirror ∙ length-map channels (λ x. unwrap_or x.capacity 0)

-- the list after the channel and its capacity in the list have grown
pub mirror_grows : (channels : List ChannelState) (caps : List ℕ) (d larger : ℕ) (channel : ChannelState)
    → caps ≡ map (λ x. unwrap_or x.capacity 0) channels → channel.capacity ≡ Some larger
    → set caps d larger ≡ map (λ x. unwrap_or x.capacity 0) (set channels d channel)
mirror_grows channels caps d larger channel mirror is =
    ap (λ cs. set cs d larger) mirror
    ∙ ap (λ o. set (map (λ x. unwrap_or x.capacity 0) channels) d (unwrap_or o 0)) (sym is)
    ∙ sym (map-set (λ x. unwrap_or x.capacity 0) channels d channel)

pub mirror_kept : (channels : List ChannelState) (caps : List ℕ) (c : ℕ) (channel before : ChannelState)
    → caps ≡ map (λ x. unwrap_or x.capacity 0) channels → channel.capacity ≡ before.capacity
    → before ≡ get_or channels c before → caps ≡ map (λ x. unwrap_or x.capacity 0) (set channels c channel)
mirror_kept channels caps c channel before mirror same is =
    mirror ∙ sym (capacities_kept channels c channel before (same ∙ ap (λ x. x.capacity) is))
