-- Processes: what is read is spelled so, and what is spelled so is read.
use Rattle.kpn_text_grammar.proofs.Common.{◌<◌, ◌-◌, suc, subst, List, ◌∷◌, length, refl, sym, ap, arith, AllByRecursion, Token, Scope, ProcessNode, SpellsAll, SpellsProcess, spell_all, spell_declaration, ProcessIsWithin, is_keyword}
use Rattle.kpn_text_tokens.specs.declared.tokens.Token.TheVariants as token
use Rattle.kpn_text_tokens.specs.declared.tokens.Mark.TheVariants as mark_
use Rattle.kpn_text_tokens.specs.declared.tokens.Keyword.TheVariants as keyword_
use Rattle.kpn_text_grammar.specs.Reading.{many, process, numbered_process, processes}
use Rattle.kpn_text_grammar.proofs.Lookahead.{lower, Anything}
use Rattle.kpn_text_grammar.proofs.Readers.{this_mark, this_keyword, ReadsBy, HasRoom, Unless, behind, value, bind, mapped, reads_by, a_name, begins, Elements, each_by}
use Rattle.kpn_text_grammar.proofs.DeclarationLaws.{declarations_reads}
use Rattle.kpn_text_grammar.proofs.HeadLaws.{parts_reads}
use Rattle.kpn_text_grammar.proofs.StatementLaws.{whole_body_reads, no_declaration}

-- within the levels of the scope; a body has one at least
abbrev ProcessNests : Scope → ProcessNode → Type 0
ProcessNests s = ProcessIsWithin s.levels (suc (s.levels - 1))

abbrev ProcessOf : Scope → ProcessNode → List Token → List Token → Type 0
ProcessOf s p tokens more = SpellsProcess s.levels s.language p tokens more × ProcessNests s p

process_reads : (s : Scope) → ReadsBy s (ProcessOf s) Anything process
unfolding process
process_reads s =
    reads_by (behind (this_keyword s keyword_.Process) (value (a_name s)
    (λ x. behind (this_mark s mark_.LeftParen) (bind (parts_reads s)
    (λ p. behind (this_mark s mark_.RightParen) (behind (this_mark s mark_.LeftBrace) (bind (declarations_reads s)
    (λ ds. mapped (λ body. record {
      name = x;
      ins = p.ins;
      outs = p.outs;
      pars = p.pars;
      declarations = ds;
      body = body;
    }) (whole_body_reads s) (λ more may. may))
    (λ x z more is may. no_declaration is.0))))
    (λ x z more is may. (_, refl))))))
    (λ z more is. (
      record { inside = z.1.1.1.1; head = refl; body = is.1.1.1.0 },
      record { declarations = is.1.1.0; body = is.1.1.1.1 },
    ))
    (λ p tokens more is. (
      (
        p.name,
        (
          record { ins = p.ins; outs = p.outs; pars = p.pars },
          (p.declarations, (p.body, is.0.inside)),
        ),
      ),
      refl,
      (tt, (tt, (is.1.declarations, (is.0.body, is.1.body)))),
      sym is.0.head,
    ))

process_longer : (s : Scope) (p : ProcessNode) (tokens more : List Token) → ProcessOf s p tokens more
    → length more < length tokens
process_longer s p tokens more is =
    let declared = spell_all spell_declaration p.declarations is.0.inside in
    let shut = token.Mark mark_.RightParen ∷ token.Mark mark_.LeftBrace ∷ declared in
    omega (
      arith,
      ap length is.0.head,
      (parts_reads s).laws.no_gap (record { ins = p.ins; outs = p.outs; pars = p.pars }) shut tt,
      (declarations_reads s).laws.no_gap p.declarations is.0.inside is.1.declarations,
      (whole_body_reads s).laws.no_gap (p.body, is.0.inside) more (is.0.body, is.1.body),
    )

pub process_ones : (s : Scope) → Elements {Z = ProcessNode × List Token} s.end (HasRoom s) (is_keyword keyword_.Process)
    (λ z. z.0) (λ z more. z.1) (λ z more. ProcessOf s z.0 z.1 more) Anything (numbered_process (lower s))
    (numbered_process s)
unfolding numbered_process
process_ones s = record {
  laws = λ i. process_reads (record { end = s.end; process = i; language = s.language; levels = s.levels });
  starts = λ z more is. ap (begins (is_keyword keyword_.Process)) is.0.head;
  longer = λ z more is. process_longer s z.0 z.1 more is;
  next = λ z more is. tt;
  last = λ more ends. tt;
}

pub processes_reads : (s : Scope) → 0 < s.levels → ReadsBy s (λ ps tokens more.
    SpellsAll (SpellsProcess s.levels s.language) ps tokens more × AllByRecursion
    (ProcessIsWithin s.levels s.levels) ps)
    (Unless (is_keyword keyword_.Process)) processes
unfolding processes
processes_reads s some =
    subst (λ d. ReadsBy s (λ ps tokens more.
    SpellsAll (SpellsProcess s.levels s.language) ps tokens more × AllByRecursion (ProcessIsWithin s.levels d) ps)
    (Unless (is_keyword keyword_.Process))
    (λ s ls. many (is_keyword keyword_.Process) (numbered_process s) 0 (length ls) ls))
    (omega (arith, some))
    (each_by (SpellsProcess s.levels s.language) (ProcessNests s) (process_ones s) 0)
