-- There are sinks.
use Rattle.kpn_command_stream.proofs.Common.{◌∙◌, sym, ap, length, ◌&&◌, lt-ltb, are_all_done}
use Rattle.kpn_command_stream.proofs.summary.are_done.Goals as goal

pub returns-then-sinks-gt0 : goal.returns-then-sinks-gt0
returns-then-sinks-gt0 c =
    let sinks = c.args.sinks.now in
    c.are_all_done.ensures ∙ sym (ap (λ b. b && are_all_done sinks) (lt-ltb 0 (length sinks) c.if-sinks-gt0.true))
