use Rattle.std.proofs.Common.{◌∙◌, ◌++◌, ap, string_bytes}
use Rattle.lam_make.specs.Made.{number_in, nth_thread, thread_text}
use Rattle.lam_make.proofs.MadeLemmas.{none_listed, one_more, first_state, state_more, number_more}
use Rattle.lam_make.proofs.document.push_threads.Goals as goal

pub loop-k-init : goal.loop-k-init
loop-k-init c =
    record {
      text = none_listed (nth_thread c.args.seed) (string_bytes c.args.text.now);
      state = first_state c.args.seed;
    }

pub loop-k-preserved : goal.loop-k-preserved
loop-k-preserved c =
    record {
      text = one_more (nth_thread c.args.seed) c.loop-k.k (string_bytes c.args.text.now) (string_bytes c.loop-k.text) (string_bytes c.push_comma.new.text) (string_bytes c.push_thread.new.text) c.loop-k.invariant.text c.in_ok-push_comma.ensures (c.in_ok-push_thread.ensures ∙ ap (λ n. string_bytes c.push_comma.new.text ++ thread_text c.loop-k.k n) (c.number_in.ensures ∙ ap number_in c.next-state.ensures ∙ number_more c.args.seed c.loop-k.k c.loop-k.state c.loop-k.invariant.state));
      state = c.next-state.ensures ∙ state_more c.args.seed c.loop-k.k c.loop-k.state c.loop-k.invariant.state;
    }
