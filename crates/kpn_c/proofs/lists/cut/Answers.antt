use Rattle.std.proofs.Common.{◌≡◌, ℕ, ◌+◌, ◌-◌, ◌<◌, ◌≤◌, ℤ, List, [], ◌∷◌, ◌++◌, length, map, take, drop, get_or, slice_index_or, refl, sym, ap, ◌∙◌, arith, length-drop}
use Rattle.std.proofs.lemmas.Grind.{flat_map-append}
use Rattle.kpn_c.proofs.Common.{append-nil, map-append, take_more, length-take-le, flat_of}
use Rattle.std.proofs.lemmas.List.Sums.{sum_by_more}
use Rattle.std.proofs.Math.Seq.{take-add}
use Rattle.kpn_c.proofs.lists.cut.Goals as goal

-- the next n items
module _ (items : List ℤ) (at n : ℕ) (lists more : List (List ℤ))
    (is : more ≡ lists ++ take (at + n - at) (drop at items) ∷ []) where
  abbrev next : List ℤ
  next = take n (drop at items)

  cut_next : more ≡ lists ++ next ∷ []
  cut_next =
      let same : at + n - at ≡ n = omega arith in
      is ∙ ap (λ k. lists ++ take k (drop at items) ∷ []) same

  items_then : flat_of lists ≡ take at items → flat_of more ≡ take (at + n) items
  items_then so_far =
      ap flat_of cut_next ∙ flat_map-append (λ list. list) lists (next ∷ [])
      ∙ ap (λ xs. flat_of lists ++ xs) (append-nil next)
      ∙ ap (λ xs. xs ++ next) so_far ∙ sym (take-add at n items)

  lengths_then : (lengths : List ℕ) (k : ℕ) → k < length lengths → n ≡ get_or lengths k 0
      → at + n ≤ length items → map length lists ≡ take k lengths
      → map length more ≡ take (k + 1) lengths
  lengths_then lengths k below is_n fits so_far =
      let long : length next ≡ n =
      length-take-le n (drop at items)
      (let rest = length-drop at items in omega arith) in
      ap (map length) cut_next ∙ map-append length lists (next ∷ [])
      ∙ ap (λ xs. xs ++ length next ∷ []) so_far ∙ ap (λ m. take k lengths ++ m ∷ []) (long ∙ is_n)
      ∙ sym (take_more lengths k 0 below)

pub lists-preserved : goal.lists-preserved
lists-preserved c =
    let made = c.in_ok-push_list.ensures in
    let n = slice_index_or c.args.lengths.now c.lists.k 0 in
    let fits : c.lists.at + n ≤ length c.args.items.now = omega arith in
    record {
      within = fits;
      items = items_then c.args.items.now c.lists.at n c.lists.lists.items _ made c.lists.invariant.items;
      lengths = lengths_then c.args.items.now c.lists.at n c.lists.lists.items _ made c.args.lengths.now
          c.lists.k c.lists-test.true refl fits c.lists.invariant.lengths;
      sum =
          ap (λ m. m + n) c.lists.invariant.sum
          ∙ sym (sum_by_more (λ x. x) c.args.lengths.now c.lists.k 0 c.lists-test.true);
    }
