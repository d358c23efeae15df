-- Take the items of a network whose names were resolved, with a name in place of each number again, the channels first
-- and then the instances. They resolve to the same tables.
use Rattle.kpn_text.proofs.Common.{◌≡◌, ℕ, zero, suc, ◌<◌, ◌^◌, false, List, [], ◌∷◌, ◌++◌, map, fold, ℤ, pos, negsuc, Result, Ok, refl, sym, ap, subst, ◌∙◌, append_assoc, append-nil, arith, AllByRecursion, ChannelSpec, Language, NameBytes, Literal, plain, negated, literal_value, InstanceNode, Item, channel, source, sink, instance, has, known, all_known, declared, with_name, name_at, within_32_bits, with_channel_name, all_channels, Wiring, with_wired_channel, instance_of, with_instance, with_wired_item, wiring, NetworkNames, process_names, paired, literal_named, channel_named, call_named, instance_named, IsProperLiteral, IsProperInstance, IsProperItem, ok_is, went, then_ok, known_named, all_known_named, declared_is, declared_new, with_name_new}
use Rattle.std.proofs.lemmas.List.Sums.{fold-append}
use Rattle.kpn_net.specs.declared.tables.ChannelSpec.TheVariants.{Inner, Source, Sink}
use Rattle.kpn_net.specs.declared.tables.Instance as net
use Rattle.kpn_text_names.specs.Fault.{NameError, each}
use Rattle.kpn_text_tokens.specs.Results.{and_then}

-- ---- values and capacities

literal_back : (z : ℤ) → literal_value (literal_named z) ≡ z
literal_back (pos n) = refl
literal_back (negsuc n) = refl

pub literals_back : (zs : List ℤ) → map literal_value (map literal_named zs) ≡ zs
literals_back [] = refl
literals_back (z ∷ zs) = λ i. literal_back z i ∷ literals_back zs i

literal_proper : (v : Literal) → IsProperLiteral v → IsProperLiteral (literal_named (literal_value v))
literal_proper (plain n) h = h
literal_proper (negated zero) h = h
literal_proper (negated (suc n)) h = h

pub literals_proper : (vs : List Literal) → AllByRecursion IsProperLiteral vs
    → AllByRecursion IsProperLiteral (map literal_named (map literal_value vs))
literals_proper [] h = tt
literals_proper (v ∷ vs) h = (literal_proper v h.0, literals_proper vs h.1)

within_again : (n : ℕ) → within_32_bits (within_32_bits n) ≡ within_32_bits n
within_again n = omega arith

within_small : (n : ℕ) → within_32_bits n < 2 ^ 63
within_small n = omega arith

-- ---- an instance

-- the instance with its values as they are printed
abbrev printed : InstanceNode → InstanceNode
printed i =
    record {
      name = i.name;
      program = i.program;
      ins = i.ins;
      outs = i.outs;
      values = map literal_named (map literal_value i.values);
    }

printed_proper : (l : Language) (i : InstanceNode) → IsProperInstance l i → IsProperInstance l (printed i)
printed_proper l i h =
    record {
      name = h.name;
      program = h.program;
      ins = h.ins;
      outs = h.outs;
      values = literals_proper i.values h.values;
    }

module _ (programs channels : List NameBytes) where
  abbrev instance_with : (values : List ℤ) (program : ℕ) (ins outs : List ℕ) → net.Instance
  instance_with values program ins outs = record { program = program; ins = ins; outs = outs; pars = values }

  -- what a resolved instance was read from
  record WasKnown (i : InstanceNode) (made : net.Instance) : Type 0 where
    program : ℕ
    ins : List ℕ
    outs : List ℕ
    has_program : known programs i.program ≡ Ok program
    has_ins : all_known channels i.ins ≡ Ok ins
    has_outs : all_known channels i.outs ≡ Ok outs
    is : instance_with (map literal_value i.values) program ins outs ≡ made

  was_known : (i : InstanceNode) (made : net.Instance) → instance_of programs channels i ≡ Ok made → WasKnown i made
  was_known i made h =
      let program = went _ _ made h in
      let ins = went _ _ made program.rest in
      let outs = went _ _ made ins.rest in
      record {
        program = program.value;
        ins = ins.value;
        outs = outs.value;
        has_program = program.first;
        has_ins = ins.first;
        has_outs = outs.first;
        is = ok_is _ made outs.rest;
      }

  printed_again : (i : InstanceNode) (made : net.Instance) → WasKnown i made
      → instance_of programs channels (printed i) ≡ Ok made
  printed_again i made h =
      let values = map literal_value (map literal_named (map literal_value i.values)) in
      then_ok (known programs i.program)
      (λ p.
      and_then (all_known channels i.ins)
      (λ a. and_then (all_known channels i.outs) (λ b. Ok (instance_with values p a b)))) h.program
      h.has_program
      ∙ then_ok (all_known channels i.ins)
      (λ a. and_then (all_known channels i.outs) (λ b. Ok (instance_with values h.program a b))) h.ins h.has_ins
      ∙ then_ok (all_known channels i.outs) (λ b. Ok (instance_with values h.program h.ins b)) h.outs h.has_outs
      ∙ ap (λ zs. Ok (instance_with zs h.program h.ins h.outs)) (literals_back (map literal_value i.values))
      ∙ ap (λ m. Ok m) h.is

  call_back : (names : NetworkNames) → process_names names ≡ programs → names.channels ≡ channels
      → (i : InstanceNode) (made : net.Instance) → WasKnown i made → call_named names i.name made ≡ printed i
  call_back names p c i made h =
      let program : name_at (process_names names) h.program ≡ i.program =
      ap (λ l. name_at l h.program) p ∙ (known_named programs i.program h.program h.has_program).name in
      let ins : map (name_at names.channels) h.ins ≡ i.ins =
      ap (λ l. map (name_at l) h.ins) c ∙ all_known_named channels i.ins h.ins h.has_ins in
      let outs : map (name_at names.channels) h.outs ≡ i.outs =
      ap (λ l. map (name_at l) h.outs) c ∙ all_known_named channels i.outs h.outs h.has_outs in
      let core : call_named names i.name (instance_with (map literal_value i.values) h.program h.ins h.outs)
      ≡ printed i =
      λ j.
      record {
        name = i.name;
        program = program j;
        ins = ins j;
        outs = outs j;
        values = map literal_named (map literal_value i.values);
      } in
      ap (λ m. call_named names i.name m) (sym h.is) ∙ core

-- ---- the tables so far

abbrev wiring_with : List NameBytes → List ChannelSpec → List NameBytes → List net.Instance → Wiring
wiring_with channel_names channels instance_names instances =
    record {
      channel_names = channel_names;
      channels = channels;
      instance_names = instance_names;
      instances = instances;
    }

-- a channel that was new
record NewChannel (w : Wiring) (x : NameBytes) (spec : ChannelSpec) (next : Wiring) : Type 0 where
  new : has w.channel_names x ≡ false
  is : wiring_with (w.channel_names ++ x ∷ []) (w.channels ++ spec ∷ []) w.instance_names w.instances ≡ next

new_channel : (w : Wiring) (x : NameBytes) (spec : ChannelSpec) (next : Wiring) → with_wired_channel w x spec ≡ Ok next
    → NewChannel w x spec next
new_channel w x spec next h =
    let names = went _ _ next h in
    let d = declared_is w.channel_names x names.value names.first in
    let is : wiring_with names.value (w.channels ++ spec ∷ []) w.instance_names w.instances ≡ next =
    ok_is _ next names.rest in
    record { new = d.0; is = ap (λ l. wiring_with l (w.channels ++ spec ∷ []) w.instance_names w.instances) d.1 ∙ is }

channel_again : (w : Wiring) (x : NameBytes) (spec : ChannelSpec) → has w.channel_names x ≡ false
    → with_wired_channel w x spec
    ≡ Ok (wiring_with (w.channel_names ++ x ∷ []) (w.channels ++ spec ∷ []) w.instance_names w.instances)
channel_again w x spec new =
    then_ok (declared w.channel_names x)
    (λ l. Ok (wiring_with l (w.channels ++ spec ∷ []) w.instance_names w.instances)) (w.channel_names ++ x ∷ [])
    (declared_new w.channel_names x new)

-- ---- the table of channels

module _ (programs channels : List NameBytes) where
  table_step : (i : Item) (w next : Wiring) → with_wired_item programs channels w i ≡ Ok next
      → with_channel_name w.channel_names i ≡ next.channel_names
  table_step (channel x n) w next h =
      let c = new_channel w x (Inner (within_32_bits n)) next h in
      with_name_new w.channel_names x c.new ∙ ap (λ (q : Wiring). q.channel_names) c.is
  table_step (source x) w next h =
      let c = new_channel w x Source next h in
      with_name_new w.channel_names x c.new ∙ ap (λ (q : Wiring). q.channel_names) c.is
  table_step (sink x n) w next h =
      let c = new_channel w x (Sink (within_32_bits n)) next h in
      with_name_new w.channel_names x c.new ∙ ap (λ (q : Wiring). q.channel_names) c.is
  table_step (instance i) w next h =
      let names = went _ _ next h in
      let made = went _ _ next names.rest in
      let is : wiring_with w.channel_names w.channels names.value (w.instances ++ made.value ∷ []) ≡ next =
      ok_is _ next made.rest in
      ap (λ (q : Wiring). q.channel_names) is

  table_of : (items : List Item) (w last : Wiring) → each (with_wired_item programs channels) w items ≡ Ok last
      → fold with_channel_name w.channel_names items ≡ last.channel_names
  unfolding each
  table_of [] w last h = ap (λ (q : Wiring). q.channel_names) (ok_is w last h)
  table_of (i ∷ items) w last h =
      let first = went (with_wired_item programs channels w i) (λ q. each (with_wired_item programs channels) q items) last h in
      ap (λ l. fold with_channel_name l items) (table_step i w first.value first.first)
      ∙ table_of items first.value last first.rest

-- the table of all channels is that of the channels as they are declared
pub all_channels_are : (programs : List NameBytes) (items : List Item) (last : Wiring) → wiring programs items ≡ Ok last
    → all_channels items ≡ last.channel_names
all_channels_are programs items last h = table_of programs (all_channels items) items (wiring_with [] [] [] []) last h

-- ---- the items again

module _ (l : Language) (names : NetworkNames) (programs channels : List NameBytes) (p : process_names names ≡ programs)
    (c : names.channels ≡ channels) where
  -- what items added to the tables before, and what it is to read that again
  record Added (w : Wiring) (items : List Item) (last : Wiring) : Type 0 where
    channel_names : List NameBytes
    specs : List ChannelSpec
    instance_names : List NameBytes
    instances : List net.Instance
    channel_names_are : last.channel_names ≡ w.channel_names ++ channel_names
    channels_are : last.channels ≡ w.channels ++ specs
    instance_names_are : last.instance_names ≡ w.instance_names ++ instance_names
    instances_are : last.instances ≡ w.instances ++ instances
    channels_again : (xs : List NameBytes) (is : List net.Instance)
        → each (with_wired_item programs channels) (wiring_with w.channel_names w.channels xs is)
        (paired channel_named channel_names specs) ≡ Ok (wiring_with last.channel_names last.channels xs is)
    instances_again : (xs : List NameBytes) (cs : List ChannelSpec)
        → each (with_wired_item programs channels) (wiring_with xs cs w.instance_names w.instances)
        (paired (instance_named names) instance_names instances)
        ≡ Ok (wiring_with xs cs last.instance_names last.instances)
    table_again : fold with_channel_name w.channel_names (paired channel_named channel_names specs)
        ≡ last.channel_names
    channels_proper : AllByRecursion (IsProperItem l) items
        → AllByRecursion (IsProperItem l) (paired channel_named channel_names specs)
    instances_proper : AllByRecursion (IsProperItem l) items
        → AllByRecursion (IsProperItem l) (paired (instance_named names) instance_names instances)

  -- a channel that is declared and printed as such
  record PrintsAs (i : Item) (x : NameBytes) (spec : ChannelSpec) : Type 0 where
    again : (w : Wiring) → with_wired_item programs channels w (channel_named x spec) ≡ with_wired_channel w x spec
    table : (t : List NameBytes) → with_channel_name t (channel_named x spec) ≡ with_name t x
    proper : IsProperItem l i → IsProperItem l (channel_named x spec)

  channel_step : (i : Item) (x : NameBytes) (spec : ChannelSpec) (items : List Item) (w next last : Wiring)
      → PrintsAs i x spec → NewChannel w x spec next → Added next items last → Added w (i ∷ items) last
  unfolding each and_then
  channel_step i x spec items w next last prints new more =
      let now : Wiring =
      wiring_with (w.channel_names ++ x ∷ []) (w.channels ++ spec ∷ []) w.instance_names w.instances in
      let rest : Added now items last = subst (λ q. Added q items last) (sym new.is) more in
      record {
        channel_names = x ∷ rest.channel_names;
        specs = spec ∷ rest.specs;
        instance_names = rest.instance_names;
        instances = rest.instances;
        channel_names_are = rest.channel_names_are ∙ append_assoc w.channel_names (x ∷ []) rest.channel_names;
        channels_are = rest.channels_are ∙ append_assoc w.channels (spec ∷ []) rest.specs;
        instance_names_are = rest.instance_names_are;
        instances_are = rest.instances_are;
        channels_again = λ xs is.
            let before : Wiring = wiring_with w.channel_names w.channels xs is in
            ap (λ r.
            and_then r
            (λ t. each (with_wired_item programs channels) t (paired channel_named rest.channel_names rest.specs)))
            (prints.again before ∙ channel_again before x spec new.new)
            ∙ rest.channels_again xs is;
        instances_again = rest.instances_again;
        table_again =
            ap (λ t. fold with_channel_name t (paired channel_named rest.channel_names rest.specs))
            (prints.table w.channel_names ∙ with_name_new w.channel_names x new.new)
            ∙ rest.table_again;
        channels_proper = λ h. (prints.proper h.0, rest.channels_proper h.1);
        instances_proper = λ h. rest.instances_proper h.1;
      }

  -- an instance that was new
  record NewInstance (w : Wiring) (i : InstanceNode) (next : Wiring) : Type 0 where
    new : has w.instance_names i.name ≡ false
    made : net.Instance
    known_before : WasKnown programs channels i made
    is : wiring_with w.channel_names w.channels (w.instance_names ++ i.name ∷ []) (w.instances ++ made ∷ []) ≡ next

  new_instance : (w : Wiring) (i : InstanceNode) (next : Wiring) → with_instance programs channels w i ≡ Ok next
      → NewInstance w i next
  new_instance w i next h =
      let table = went _ _ next h in
      let made = went _ _ next table.rest in
      let d = declared_is w.instance_names i.name table.value table.first in
      let is : wiring_with w.channel_names w.channels table.value (w.instances ++ made.value ∷ []) ≡ next =
      ok_is _ next made.rest in
      record {
        new = d.0;
        made = made.value;
        known_before = was_known programs channels i made.value made.first;
        is = ap (λ l. wiring_with w.channel_names w.channels l (w.instances ++ made.value ∷ [])) d.1 ∙ is;
      }

  instance_again : (w : Wiring) (i : InstanceNode) (made : net.Instance) → has w.instance_names i.name ≡ false
      → WasKnown programs channels i made
      → with_instance programs channels w (call_named names i.name made)
      ≡ Ok (wiring_with w.channel_names w.channels (w.instance_names ++ i.name ∷ []) (w.instances ++ made ∷ []))
  instance_again w i made new h =
      let made_again : instance_of programs channels (call_named names i.name made) ≡ Ok made =
      ap (λ q. instance_of programs channels q) (call_back programs channels names p c i made h)
      ∙ printed_again programs channels i made h in
      then_ok (declared w.instance_names i.name)
      (λ l.
      and_then (instance_of programs channels (call_named names i.name made))
      (λ m. Ok (wiring_with w.channel_names w.channels l (w.instances ++ m ∷ []))))
      (w.instance_names ++ i.name ∷ []) (declared_new w.instance_names i.name new)
      ∙ then_ok (instance_of programs channels (call_named names i.name made))
      (λ m. Ok (wiring_with w.channel_names w.channels (w.instance_names ++ i.name ∷ []) (w.instances ++ m ∷ [])))
      made made_again

  instance_step : (i : InstanceNode) (items : List Item) (w next last : Wiring) → NewInstance w i next
      → Added next items last → Added w (instance i ∷ items) last
  unfolding each and_then
  instance_step i items w next last new more =
      let now : Wiring =
      wiring_with w.channel_names w.channels (w.instance_names ++ i.name ∷ []) (w.instances ++ new.made ∷ []) in
      let rest : Added now items last = subst (λ q. Added q items last) (sym new.is) more in
      record {
        channel_names = rest.channel_names;
        specs = rest.specs;
        instance_names = i.name ∷ rest.instance_names;
        instances = new.made ∷ rest.instances;
        channel_names_are = rest.channel_names_are;
        channels_are = rest.channels_are;
        instance_names_are =
            rest.instance_names_are ∙ append_assoc w.instance_names (i.name ∷ []) rest.instance_names;
        instances_are = rest.instances_are ∙ append_assoc w.instances (new.made ∷ []) rest.instances;
        channels_again = rest.channels_again;
        instances_again = λ xs cs.
            ap (λ r.
            and_then r
            (λ t.
            each (with_wired_item programs channels) t
            (paired (instance_named names) rest.instance_names rest.instances)))
            (instance_again (wiring_with xs cs w.instance_names w.instances) i new.made new.new new.known_before)
            ∙ rest.instances_again xs cs;
        table_again = rest.table_again;
        channels_proper = λ h. rest.channels_proper h.1;
        instances_proper = λ h. (
          subst (IsProperInstance l) (sym (call_back programs channels names p c i new.made new.known_before))
              (printed_proper l i h.0),
          rest.instances_proper h.1,
        );
      }

  one_more : (i : Item) (items : List Item) (w next last : Wiring) → with_wired_item programs channels w i ≡ Ok next
      → Added next items last → Added w (i ∷ items) last
  one_more (channel x n) items w next last h more =
      channel_step (channel x n) x (Inner (within_32_bits n)) items w next last
      (record {
        again = λ q. ap (λ m. with_wired_channel q x (Inner m)) (within_again n);
        table = λ t. refl;
        proper = λ h. (h.0, within_small n);
      })
      (new_channel w x (Inner (within_32_bits n)) next h) more
  one_more (source x) items w next last h more =
      channel_step (source x) x Source items w next last
      (record { again = λ q. refl; table = λ t. refl; proper = λ h. h }) (new_channel w x Source next h) more
  one_more (sink x n) items w next last h more =
      channel_step (sink x n) x (Sink (within_32_bits n)) items w next last
      (record {
        again = λ q. ap (λ m. with_wired_channel q x (Sink m)) (within_again n);
        table = λ t. refl;
        proper = λ h. (h.0, within_small n);
      })
      (new_channel w x (Sink (within_32_bits n)) next h) more
  one_more (instance i) items w next last h more = instance_step i items w next last (new_instance w i next h) more

  added : (items : List Item) (w last : Wiring) → each (with_wired_item programs channels) w items ≡ Ok last
      → Added w items last
  unfolding each
  added [] w last h =
      let same : w ≡ last = ok_is w last h in
      subst (λ q. Added w [] q) same (record {
        channel_names = [];
        specs = [];
        instance_names = [];
        instances = [];
        channel_names_are = sym (append-nil w.channel_names);
        channels_are = sym (append-nil w.channels);
        instance_names_are = sym (append-nil w.instance_names);
        instances_are = sym (append-nil w.instances);
        channels_again = λ xs is. refl;
        instances_again = λ xs cs. refl;
        table_again = refl;
        channels_proper = λ h. h;
        instances_proper = λ h. h;
      })
  added (i ∷ items) w last h =
      let first = went (with_wired_item programs channels w i) (λ q. each (with_wired_item programs channels) q items) last h in
      one_more i items w first.value last first.first (added items first.value last first.rest)

-- ---- all items of a network

-- the items that these tables stand for: the channels in order, and then the instances in order
abbrev pub items_named : NetworkNames → Wiring → List Item
items_named names w =
    paired channel_named w.channel_names w.channels ++ paired (instance_named names) w.instance_names w.instances

each-append : {S X : Type 0} (step : S → X → Result S NameError) (s t : S) (xs ys : List X) → each step s xs ≡ Ok t
    → each step s (xs ++ ys) ≡ each step t ys
unfolding each
each-append step s t [] ys h = ap (λ q. each step q ys) (ok_is s t h)
each-append step s t (x ∷ xs) ys h =
    let first = went (step s x) (λ q. each step q xs) t h in
    then_ok (step s x) (λ q. each step q (xs ++ ys)) first.value first.first
    ∙ each-append step first.value t xs ys first.rest

instances_declare_nothing : (names : NetworkNames) (t xs : List NameBytes) (is : List net.Instance)
    → fold with_channel_name t (paired (instance_named names) xs is) ≡ t
instances_declare_nothing names t [] is = refl
instances_declare_nothing names t (x ∷ xs) [] = refl
instances_declare_nothing names t (x ∷ xs) (i ∷ is) = instances_declare_nothing names t xs is

all-append : {X : Type 0} (P : X → Type 0) (xs ys : List X) → AllByRecursion P xs → AllByRecursion P ys
    → AllByRecursion P (xs ++ ys)
all-append P [] ys h k = k
all-append P (x ∷ xs) ys h k = (h.0, all-append P xs ys h.1 k)

-- what comes of the items of a network
pub record ItemsBack (l : Language) (names : NetworkNames) (programs : List NameBytes) (items : List Item) (w : Wiring)
    : Type 0 where
  pub again : wiring programs (items_named names w) ≡ Ok w
  pub proper : AllByRecursion (IsProperItem l) items → AllByRecursion (IsProperItem l) (items_named names w)

pub items_back : (l : Language) (names : NetworkNames) (programs : List NameBytes) (items : List Item) (w : Wiring)
    → process_names names ≡ programs → names.channels ≡ w.channel_names → wiring programs items ≡ Ok w
    → ItemsBack l names programs items w
items_back l names programs items w p c h =
    let channels : List NameBytes = all_channels items in
    let same : channels ≡ w.channel_names = all_channels_are programs items w h in
    let a = added l names programs channels p (c ∙ sym same) items (wiring_with [] [] [] []) w h in
    let declared_items : List Item = paired channel_named w.channel_names w.channels in
    let called_items : List Item = paired (instance_named names) w.instance_names w.instances in
    let declared_are : paired channel_named a.channel_names a.specs ≡ declared_items =
    λ i. paired channel_named (sym a.channel_names_are i) (sym a.channels_are i) in
    let called_are : paired (instance_named names) a.instance_names a.instances ≡ called_items =
    λ i. paired (instance_named names) (sym a.instance_names_are i) (sym a.instances_are i) in
    let step = with_wired_item programs channels in
    let declared_again : each step (wiring_with [] [] [] []) declared_items
    ≡ Ok (wiring_with w.channel_names w.channels [] []) =
    ap (λ l. each step (wiring_with [] [] [] []) l) (sym declared_are) ∙ a.channels_again [] [] in
    let called_again : each step (wiring_with w.channel_names w.channels [] []) called_items ≡ Ok w =
    ap (λ l. each step (wiring_with w.channel_names w.channels [] []) l) (sym called_are)
    ∙ a.instances_again w.channel_names w.channels in
    let read_again : each step (wiring_with [] [] [] []) (items_named names w) ≡ Ok w =
    each-append step (wiring_with [] [] [] []) (wiring_with w.channel_names w.channels [] []) declared_items
    called_items declared_again ∙ called_again in
    let table : all_channels (items_named names w) ≡ channels =
    fold-append with_channel_name [] declared_items called_items
    ∙ instances_declare_nothing names (fold with_channel_name [] declared_items) w.instance_names w.instances
    ∙ ap (λ l. fold with_channel_name [] l) (sym declared_are) ∙ a.table_again ∙ sym same in
    record {
      again =
          ap (λ l. each (with_wired_item programs l) (wiring_with [] [] [] []) (items_named names w)) table ∙ read_again;
      proper = λ all. all-append (IsProperItem l) declared_items called_items
          (subst (λ are. AllByRecursion (IsProperItem l) are) declared_are (a.channels_proper all))
          (subst (λ are. AllByRecursion (IsProperItem l) are) called_are (a.instances_proper all));
    }
