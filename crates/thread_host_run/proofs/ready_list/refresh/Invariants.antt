use Rattle.std.proofs.Common.{◌≡◌, ◌≤◌, vec_len}
use Rattle.std.specs.Prelude.{vec_capacity}
use Rattle.thread_host_run.proofs.Tellings.{GoneThrough}
use Rattle.thread_host_run.proofs.ready_list.refresh.Given as goal

abbrev pub invariant-loop-thread : goal.invariant-loop-thread
invariant-loop-thread l =
    GoneThrough l.touched l.code l.world l.initial.names.keys l.names.keys l.initial.prospects.items l.prospects.items l.threads.items l.thread
    × (vec_len l.threads ≤ l.thread) × (4096 ≤ vec_capacity l.threads) × (vec_capacity l.prospects ≡ vec_capacity l.initial.prospects)
