-- How worlds are stored, for what holds them.
use Rattle.std.specs.Prelude.{ℕ, List, refl}
use Rattle.std.specs.Coded.{Coded, code_by, coded×, coded_ℕ, coded_list}
use Rattle.capabilities.specs.declared.Caps.{Caps}
use Rattle.labelled_heap.specs.Things.{Things, coded_things}
use Rattle.monitor_core.specs.Held.{Held, coded_held}
use Rattle.labelled_files.specs.Trees.{Tree, coded_tree}
use Rattle.lam_machine_rows.specs.Queues.{Queues, coded_queues}
use Rattle.thread_core_state.specs.Threads.{Thread}
use Rattle.thread_core_state.specs.Coding.{coded_caps, coded_thread}
use Rattle.lam_machine_rows.specs.Worlds.{World}

abbrev pub coded_world : Coded World
coded_world =
    code_by (List (List ℕ) × (Caps × (ℕ × (Things × (Held × (Tree × (Queues × List Thread)))))))
    (coded× (coded_list (coded_list coded_ℕ)) (coded× coded_caps (coded× coded_ℕ (coded× coded_things (coded× coded_held (coded× coded_tree (coded× coded_queues (coded_list coded_thread))))))))
    (λ w. (w.names, (w.public, (w.next_tag, (w.heap, (w.monitors, (w.files, (w.pipes, w.threads))))))))
    (λ p. record { names = p.0; public = p.1.0; next_tag = p.1.1.0; heap = p.1.1.1.0; monitors = p.1.1.1.1.0; files = p.1.1.1.1.1.0; pipes = p.1.1.1.1.1.1.0; threads = p.1.1.1.1.1.1.1 }) (λ _. refl)
