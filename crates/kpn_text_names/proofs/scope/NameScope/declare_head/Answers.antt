-- The head by its parts is the head.
use Rattle.kpn_text_names.proofs.Common.{ap, err_from_is_err_and, names_seen, process_seen}
use Rattle.kpn_text_names.proofs.Heads.{fails_at_ins, fails_at_outs, made_of}
use Rattle.kpn_text_names.proofs.scope.NameScope.declare_head.Goals as goal

pub returns-in_err-declare_all : goal.returns-in_err-declare_all
returns-in_err-declare_all c =
    let p = err_from_is_err_and c.from_residual.result c.from_residual.ensures.1 in
    rw (p.1, p.2)
    (fails_at_ins c.args.shared.now c.in_err-declare_all.field-0.0 (process_seen c.args.process.now)
    c.args.self.now
    (names_seen c.as_slice.result.now)
    c.requires
    (ap names_seen c.as_slice.ensures.value) c.in_err-declare_all.ensures)

pub returns-in_err-declare_all-2 : goal.returns-in_err-declare_all-2
returns-in_err-declare_all-2 c =
    let p =
    err_from_is_err_and c.from_residual-in_err-declare_all-2.result c.from_residual-in_err-declare_all-2.ensures.1 in
    rw (p.1, p.2)
    (fails_at_outs c.args.shared.now c.in_err-declare_all-2.field-0.0 (process_seen c.args.process.now)
    c.args.self.now c.declare_all.new.self
    (names_seen c.as_slice.result.now) (names_seen c.as_slice-2.result.now)
    c.requires
    (ap names_seen c.as_slice.ensures.value) (ap names_seen c.as_slice-2.ensures.value)
    c.in_ok-declare_all.ensures c.in_err-declare_all-2.ensures)

pub returns : goal.returns
returns c =
    rw
    (made_of c.args.shared.now (process_seen c.args.process.now) c.args.self.now c.declare_all.new.self
    c.declare_all-2.new.self (names_seen c.as_slice.result.now) (names_seen c.as_slice-2.result.now)
    (names_seen c.as_slice-3.result.now) c.requires (ap names_seen c.as_slice.ensures.value)
    (ap names_seen c.as_slice-2.ensures.value) (ap names_seen c.as_slice-3.ensures.value)
    c.in_ok-declare_all.ensures c.in_ok-declare_all-2.ensures) c.declare_all-3.ensures
