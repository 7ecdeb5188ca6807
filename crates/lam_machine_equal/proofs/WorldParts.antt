-- Stores and worlds are equal where their parts are.
use Rattle.std.proofs.Common.{◌≡◌, ◌∙◌, ℕ, List, ap}
use Rattle.capabilities.specs.declared.Caps.{Caps}
use Rattle.labelled_heap.specs.Things.{Things}
use Rattle.monitor_core.specs.Held.{Held}
use Rattle.labelled_files.specs.Trees.{Tree}
use Rattle.labelled_pipes.specs.Queues.{Queues}
use Rattle.thread_steps.specs.Threads.{Thread}
use Rattle.lam_machine_effects.specs.Worlds.{World}
use Rattle.lam_machine_effects.specs.declared.stores.Stores.{Stores}
use Rattle.lam_machine_effects.specs.Parts.{stores_of, world_of}

abbrev pub stores_from : List (List ℕ) → Caps → ℕ → Things → Held → Tree → Queues → Stores
stores_from names public tags heap monitors files pipes = record { names = names; public = public; tags = tags; heap = heap; monitors = monitors; files = files; pipes = pipes }

pub stores_same : (s t : Stores) → s.tags ≡ t.tags → s.names ≡ t.names → s.public ≡ t.public → s.heap ≡ t.heap → s.monitors ≡ t.monitors → s.files ≡ t.files → s.pipes ≡ t.pipes → s ≡ t
stores_same s t n l k h m f p =
    ap (λ (x : ℕ). stores_from s.names s.public x s.heap s.monitors s.files s.pipes) n
    ∙ (ap (λ (x : List (List ℕ)). stores_from x s.public t.tags s.heap s.monitors s.files s.pipes) l
    ∙ (ap (λ (x : Caps). stores_from t.names x t.tags s.heap s.monitors s.files s.pipes) k
    ∙ (ap (λ (x : Things). stores_from t.names t.public t.tags x s.monitors s.files s.pipes) h
    ∙ (ap (λ (x : Held). stores_from t.names t.public t.tags t.heap x s.files s.pipes) m
    ∙ (ap (λ (x : Tree). stores_from t.names t.public t.tags t.heap t.monitors x s.pipes) f
    ∙ ap (λ (x : Queues). stores_from t.names t.public t.tags t.heap t.monitors t.files x) p)))))

pub world_same : (v w : World) → stores_of v ≡ stores_of w → v.threads ≡ w.threads → v ≡ w
world_same v w s t = ap (λ (x : Stores). world_of x v.threads) s ∙ ap (λ (x : List Thread). world_of (stores_of w) x) t
