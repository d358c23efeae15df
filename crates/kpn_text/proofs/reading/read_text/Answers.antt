-- Phase by phase, in the language that the text tells.
use Rattle.std.specs.Prelude.{◌⊎◌}
use Rattle.kpn_text.proofs.Common.{◌≡◌, inl, sym, subst, err_from_is_err_and, named_seen, Document, network_size, TokensFail, SpellsDocument, TellsCause, tables_cause}
use Rattle.kpn_text.specs.declared.fault.TextFault.TheVariants as text
use Rattle.kpn_text_grammar.specs.View as grammar
use Rattle.kpn_text.proofs.Refusals.{made_spelled, names_refused, network_refused, phases, tokens_refused, tree_refused}
use Rattle.kpn_text.proofs.reading.read_text.Goals as goal

pub returns-in_err-tokens : goal.returns-in_err-tokens
returns-in_err-tokens c =
    let p = err_from_is_err_and c.from_residual.result c.from_residual.ensures.1 in
    let told = c.language_of-language.ensures in
    rw (p.1)
    (tokens_refused c.args.text.now c.language_of-language.result told p.0
    (subst (λ f. TokensFail c.language_of-language.result c.args.text.now f) (sym p.2) c.in_err-tokens.ensures))

pub returns-in_err-tree : goal.returns-in_err-tree
returns-in_err-tree c =
    let p = err_from_is_err_and c.from_residual-in_err-tree.result c.from_residual-in_err-tree.ensures.1 in
    let told = c.language_of-language.ensures in
    rw (p.1)
    (tree_refused c.args.text.now c.language_of-language.result told c.in_ok-tokens.tokens
    c.as_slice.result.now c.in_err-tree.field-0.0 p.0 c.in_ok-tokens.ensures c.as_slice.ensures
    c.in_err-tree.ensures.exact p.2)

pub returns-in_err-named : goal.returns-in_err-named
returns-in_err-named c =
    let p = err_from_is_err_and c.from_residual-in_err-named.result c.from_residual-in_err-named.ensures.1 in
    let told = c.language_of-language.ensures in
    rw (p.1)
    (names_refused c.args.text.now c.language_of-language.result told c.in_ok-tokens.tokens
    c.as_slice.result.now (grammar.document c.in_ok-tree.tree) c.in_err-named.field-0.0 p.0 c.in_ok-tokens.ensures
    c.as_slice.ensures c.in_ok-tree.ensures.exact c.in_err-named.ensures.exact p.2)

pub returns-in_err-names : goal.returns-in_err-names
returns-in_err-names c =
    let p = err_from_is_err_and c.from_residual-in_err-names.result c.from_residual-in_err-names.ensures.1 in
    rw (p.1) (inl p.2)

pub returns-in_err-network : goal.returns-in_err-network
returns-in_err-network c =
    let p = err_from_is_err_and c.from_residual-in_err-network.result c.from_residual-in_err-network.ensures.1 in
    let told = c.language_of-language.ensures in
    let tree = grammar.document c.in_ok-tree.tree in
    let n = named_seen c.in_ok-named.named in
    rw (p.1, p.2) (network_refused c.args.text.now c.in_ok-tokens.tokens tree n c.in_err-network.field-0.0
    (phases c.args.text.now c.language_of-language.result told c.in_ok-tokens.tokens c.as_slice.result.now tree n
    c.in_ok-tokens.ensures c.as_slice.ensures c.in_ok-tree.ensures.exact c.in_ok-named.ensures.exact)
    (subst
    (λ l. (c.in_err-network.field-0.0 ≡ text.NoMemory) ⊎ TellsCause (tables_cause (network_size l) n.tables) c.in_err-network.field-0.0)
    told c.in_err-network.ensures))

pub new-requires : goal.new-requires
new-requires c =
    let told = c.language_of-language.ensures in
    let tree = grammar.document c.in_ok-tree.tree in
    let n = named_seen c.in_ok-named.named in (
      c.args.text.now,
      made_spelled c.args.text.now c.in_ok-tokens.tokens tree n c.language_of-language.result
          c.in_ok-network.network c.in_ok-names.names
          (phases c.args.text.now c.language_of-language.result told c.in_ok-tokens.tokens
          c.as_slice.result.now tree n c.in_ok-tokens.ensures c.as_slice.ensures c.in_ok-tree.ensures.exact
          c.in_ok-named.ensures.exact)
          told c.in_ok-network.ensures.1 c.in_ok-names.ensures c.known.ensures c.in_ok-network.ensures.0,
    )

pub returns : goal.returns
returns c =
    let told = c.language_of-language.ensures in
    let tree = grammar.document c.in_ok-tree.tree in
    let n = named_seen c.in_ok-named.named in
    subst (λ (d : Document). SpellsDocument c.args.text.now d) (sym c.new.ensures)
    (made_spelled c.args.text.now c.in_ok-tokens.tokens tree n c.language_of-language.result
    c.in_ok-network.network c.in_ok-names.names
    (phases c.args.text.now c.language_of-language.result told c.in_ok-tokens.tokens c.as_slice.result.now tree n
    c.in_ok-tokens.ensures c.as_slice.ensures c.in_ok-tree.ensures.exact c.in_ok-named.ensures.exact)
    told c.in_ok-network.ensures.1 c.in_ok-names.ensures c.known.ensures c.in_ok-network.ensures.0)
