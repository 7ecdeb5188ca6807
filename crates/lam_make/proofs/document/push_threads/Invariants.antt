use Rattle.std.proofs.Common.{◌≡◌, ◌++◌, string_bytes}
use Rattle.lam_make.specs.Made.{state, listed, nth_thread}
use Rattle.lam_make.proofs.document.push_threads.Given as goal

abbrev pub invariant-loop-k : goal.invariant-loop-k
invariant-loop-k l =
    record {
      text : string_bytes l.text ≡ string_bytes l.initial.text ++ listed (nth_thread l.seed) l.k;
      state : l.state ≡ state l.seed l.k;
    }
