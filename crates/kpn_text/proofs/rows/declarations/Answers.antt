-- The arrays, and then the first of the tables.
use Rattle.kpn_text.proofs.Common.{◌++◌, List, map, take, sym, take_min, Declaration, array_named, tables_named, all_text, declaration_text}
use Rattle.kpn_text.proofs.PrintingLemmas.{all_text-append, same_prints, then_prints}
use Rattle.kpn_text.proofs.rows.declarations.Goals as goal

pub returns : goal.returns
returns c =
    let names = c.args.names.now in
    let first : List Declaration = map array_named names.arrays in
    let second : List Declaration = tables_named (take names.own names.tables) c.args.list.now in
    same_prints c.own_tables.result c.args.out.now.items c.own_tables.new.out.items
    (λ more. all_text declaration_text first (all_text declaration_text second more))
    (all_text declaration_text (first ++ second)) (λ more. sym (all_text-append declaration_text first second more))
    (then_prints c.own_tables.result c.args.out.now.items c.arrays.new.out.items c.own_tables.new.out.items
    (all_text declaration_text first) (all_text declaration_text second)
    (rw c.as_slice.ensures at c.in_ok-arrays.ensures)
    (rw (c.min.ensures, c.as_slice-tables.ensures, take_min names.own names.tables) at c.own_tables.ensures))
