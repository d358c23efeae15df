-- One more word has an `=`.
use Rattle.kpn_command_base.proofs.Common.{All, ◌+◌, ◌<◌, length, get_or, take, Bor, List, ℕ, sym, subst, arith, common_steps, take_more, All-push, HasEquals}
use Rattle.kpn_command_base.proofs.sources.options_of.Goals as goal

one_more : (words : List (Bor (List ℕ))) (i : ℕ) (word : Bor (List ℕ)) → i < length words
    → All (λ w. HasEquals w.now) (take i words) → HasEquals (get_or words i word).now
    → All (λ w. HasEquals w.now) (take (i + 1) words)
one_more words i word below cut more =
    subst (λ ws. All (λ w. HasEquals w.now) ws) (sym (take_more words i word below))
    (All-push (λ w. HasEquals w.now) (take i words) (get_or words i word) cut more)

pub loop-word-preserved : goal.loop-word-preserved
loop-word-preserved c = record {
  names = grind (arith, common_steps);
  files = grind (arith, common_steps);
  cut =
      one_more c.args.words.now c.loop-word.word-index _ c.loop-word-test.true c.loop-word.invariant.cut
      c.in-Some.ensures.0;
}
