-- Sources by number, and the lists in their places.
use Rattle.kpn_command_base.proofs.Common.{◌≡◌, ℕ, suc, ◌+◌, ◌<◌, ℤ, Bool, true, false, cond, ◌||◌, List, [], ◌∷◌, ◌++◌, length, get_or, set, take, drop, map, count_by, nat_eq, replicate, Option, Some, Ok, Err, refl, sym, ap, subst, ◌∙◌, arith, drop-cons, Tables, channel_at, Refusal, Input, IsRefusalOfFile, IsRefusalOfItems, with_named_end, placed_lists, IsItemFile, AreGiven, Loads}
use Rattle.std.specs.List.{AllZip, list_any}
use Rattle.std.proofs.lemmas.List.{length-map, take-append-drop, map-append, map_more}
use Rattle.std.proofs.lemmas.List.Sums.{count_by_more_yes, sum_by-take-le}
use Rattle.std.proofs.lemmas.Slice.Zip.{AllZip-long}
use Rattle.kpn_net.specs.declared.tables.ChannelSpec.{ChannelSpec}
use Rattle.kpn_text_items.proofs.FileLemmas.{AllZip-push}
use Rattle.kpn_command_base.specs.declared.option_fault.OptionFault.TheVariants.{Double}

-- one more list is put in the place of its source
pub placed_lists-more : (named : List ℕ) (lists given : List (List ℤ)) (source : ℕ) (items : List ℤ)
    → length named ≡ length lists
    → placed_lists (named ++ source ∷ []) (lists ++ items ∷ []) given ≡ set (placed_lists named lists given) source
    items
placed_lists-more [] [] given source items e = refl
placed_lists-more [] (l ∷ lists) given source items e = absurd (omega arith)
placed_lists-more (n ∷ named) [] given source items e = absurd (omega arith)
placed_lists-more (n ∷ named) (l ∷ lists) given source items e =
    placed_lists-more named lists (set given n l) source items (omega (arith, e))

pub map-map : {A B C : Type 0} (f : B → C) (g : A → B) (xs : List A) → map f (map g xs) ≡ map (λ x. f (g x)) xs
map-map f g [] = refl
map-map f g (x ∷ xs) = ap (λ ys. f (g x) ∷ ys) (map-map f g xs)

list_any-map : {X Y : Type 0} (p : Y → Bool) (f : X → Y) (xs : List X)
    → list_any (λ x. p (f x)) xs ≡ list_any p (map f xs)
list_any-map p f [] = refl
list_any-map p f (x ∷ xs) = ap (λ b. p (f x) || b) (list_any-map p f xs)

module _ {F : Type 0} (source : F → ℕ) (feeds : List F) (n : ℕ) (found : Option ℕ) (e : Some n ≡ found) where
  named_if : (before : Bool) → list_any (λ f. nat_eq (source f) n) feeds ≡ before
      → with_named_end (map source feeds) found
      ≡ cond before (Err (Double (length (map source feeds)))) (Ok (map source feeds ++ n ∷ []))
  named_if before any =
      ap (with_named_end (map source feeds)) (sym e)
      ∙ ap (λ b. cond b (Err (Double (length (map source feeds)))) (Ok (map source feeds ++ n ∷ [])))
      (sym (list_any-map (λ m. nat_eq m n) source feeds) ∙ any)

  -- a source that was named before
  pub named_before : list_any (λ f. nat_eq (source f) n) feeds ≡ true
      → with_named_end (map source feeds) found ≡ Err (Double (length feeds))
  named_before any = named_if true any ∙ ap (λ k. Err (Double k)) (length-map feeds source)

  -- a source that was not
  pub named_now : list_any (λ f. nat_eq (source f) n) feeds ≡ false
      → with_named_end (map source feeds) found ≡ Ok (map source feeds ++ n ∷ [])
  named_now any = named_if false any

module _ {F : Type 0} (source : F → ℕ) (file : F → List ℕ) (may_give : Loads) (count : ℕ)
    (feeds : List F) (i : ℕ) (d : F) (given : List (List ℤ)) (below : i < length feeds)
    (before : AreGiven may_give count (map source (take i feeds)) (map file (take i feeds)) given) where
  -- one more file is read, and its items are put in the place of their source
  pub given_more : (items : List ℤ) → IsItemFile may_give (file (get_or feeds i d)) items
      → AreGiven may_give count (map source (take (i + 1) feeds)) (map file (take (i + 1) feeds))
      (set given (source (get_or feeds i d)) items)
  given_more items item =
      let lengths : length (map source (take i feeds)) ≡ length before.lists =
      length-map (take i feeds) source ∙ sym (length-map (take i feeds) file)
      ∙ sym (AllZip-long (IsItemFile may_give) (map file (take i feeds)) before.lists before.read) in
      record {
        lists = before.lists ++ items ∷ [];
        read =
            subst (λ fs. AllZip (IsItemFile may_give) fs (before.lists ++ items ∷ []))
            (sym (map_more file feeds i d below))
            (AllZip-push (IsItemFile may_give) (map file (take i feeds)) before.lists
            (file (get_or feeds i d)) items before.read item);
        each =
            ap (λ g. set g (source (get_or feeds i d)) items) before.each
            ∙ sym
            (placed_lists-more (map source (take i feeds)) before.lists (replicate count []) (source (get_or feeds i d))
            items lengths)
            ∙ ap (λ ns. placed_lists ns (before.lists ++ items ∷ []) (replicate count []))
            (sym (map_more source feeds i d below));
      }

  -- a file that gives no items
  pub file_refused : (refusal : Refusal) → IsRefusalOfFile may_give (file (get_or feeds i d)) refusal
      → IsRefusalOfItems may_give (map file feeds) refusal
  file_refused (Input fault) h = record {
    before = map file (take i feeds);
    file = file (get_or feeds i d);
    after = map file (drop (suc i) feeds);
    order =
        ap (map file) (sym (take-append-drop i feeds))
        ∙ map-append file (take i feeds) (drop i feeds)
        ∙ ap (λ xs. map file (take i feeds) ++ map file xs) (drop-cons feeds i d below);
    lists = before.lists;
    read = before.read;
    fails = h;
  }
  file_refused other h = absurd h

-- a channel that passes a test has fewer such channels before it than there are
pub end_below : (is : ChannelSpec → Bool) (t : Tables) (c : ℕ) → c < length t.channels
    → is (channel_at t c) ≡ true → count_by is (take c t.channels) < count_by is t.channels
end_below is t c below e =
    let one = count_by_more_yes is t.channels c _ below e in
    let rest = sum_by-take-le (λ s. cond (is s) 1 0) t.channels (c + 1) in
    omega arith
