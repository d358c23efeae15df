-- One word more is kept, or names standard input.
use Rattle.kpn_command_stream.proofs.Common.{◌∙◌, not, sym, ap, names_standard}
use Rattle.kpn_command_stream.proofs.Listing.{filter_kept, filter_left}
use Rattle.kpn_command_stream.proofs.command.files_of.Goals.{then-not-is_standard+in_ok-push, else-not-is_standard}
use Rattle.kpn_command_stream.proofs.command.files_of.Goals as goal

pub loop-word-preserved : goal.loop-word-preserved
loop-word-preserved c =
    elim c.if-not-is_standard.branch [
      | then-not-is_standard+in_ok-push w ↦
          filter_kept (λ word. not (names_standard word.now)) c.args.words.now c.loop-word.word-index _
          c.loop-word.files.items _ c.loop-word.invariant c.loop-word-test.true
          (ap not (sym c.is_standard.ensures ∙ w.if-not-is_standard.true))
          (ap (λ v. v.items) w.files-is ∙ w.in_ok-push.ensures.items)
      | else-not-is_standard w ↦
          filter_left (λ word. not (names_standard word.now)) c.args.words.now c.loop-word.word-index _
          c.loop-word.files.items _ c.loop-word.invariant c.loop-word-test.true
          (ap not (sym c.is_standard.ensures ∙ w.if-not-is_standard.false)) (ap (λ v. v.items) w.files-is)
    ]
