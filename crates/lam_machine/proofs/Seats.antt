-- A service that adds a thread has a seat for it.
use Rattle.std.proofs.Common.{◌≡◌, ℕ, ◌<◌, ◌≤◌, ◌+◌, List, [], ◌∷◌, ◌++◌, None, length, sym, subst, arith, append-nil, length-append}
use Rattle.lam_asks.specs.declared.ask.Ask.{Ask}
use Rattle.lam_asks.specs.declared.ask.Ask.TheVariants as ask
use Rattle.lam_bytecode.specs.Codes.{CodeTree}
use Rattle.thread_steps.specs.Threads.{Context, Thread}
use Rattle.thread_steps.specs.Next.{started}
use Rattle.lam_machine_terms.specs.Limits.{most_threads}
use Rattle.lam_machine_terms.specs.Worlds.{World}
use Rattle.lam_machine_terms.specs.Serves as told
use Rattle.lam_machine_terms.specs.Serves.{adds_thread, Served}
use Rattle.lam_machine_terms.specs.Serving.{publicly, serve}
use Rattle.lam_machine_laws.proofs.Full.{not_full}
use Rattle.lam_machine_laws.proofs.JudgedLemmas.{judged_by}
use Rattle.lam_machine_laws.specs.Judged.{fault_by, deed_by}
use Rattle.lam_machine_effects.specs.declared.effect.Effect.{Effect}
use Rattle.lam_machine_effects.specs.declared.effect.Effect.TheVariants.{AddsThread}
use Rattle.lam_machine_effects.specs.Meaning.{meaning}
use Rattle.lam_machine_laws.specs.Turned.{born}

-- there is room for the thread that an effect adds, beside so many others
abbrev pub HasSeat : ℕ → told.Effect → Type 0
HasSeat n (adds_thread unit args caps) = n < most_threads
HasSeat n e = Unit {0}

abbrev Seated : ℕ → Served → Type 0
Seated n d = HasSeat n d.effect

done_seat : (w : World) (c : Context) (a : Ask) → fault_by w c a ≡ None → Seated (length w.threads) (deed_by w c a)
done_seat w c (ask.Spawn unit args caps) g = not_full _ _ _ g
done_seat w c a g = tt

pub seat_row : (w : World) (c : Context) (a : Ask) → Seated (length w.threads) (serve w c a)
seat_row w c a = judged_by (Seated (length w.threads)) w (publicly w.public c) a (λ x e. tt) (λ f e g. tt) (λ e g. done_seat w (publicly w.public c) a g)

-- with the thread that an effect adds there are no more than there may be
pub born_few : (code : CodeTree) (e : Effect) (threads : List Thread) → HasSeat (length threads) (meaning e) → length threads ≤ most_threads → length (threads ++ born code e) ≤ most_threads
born_few code (AddsThread unit args caps) threads h k =
    let e : length (threads ++ started code unit args caps ∷ []) ≡ length threads + 1 = length-append threads (started code unit args caps ∷ []) in omega arith
born_few code e threads h k = subst (λ (xs : List Thread). length xs ≤ most_threads) (sym (append-nil threads)) k
