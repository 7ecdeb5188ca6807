-- Which turns start a thread.
use Rattle.std.proofs.Common.{◌≡◌, ℕ, true, false, List, Some, None, refl, ap}
use Rattle.std.specs.Option.{option_map}
use Rattle.capabilities.specs.declared.Caps.{Caps}
use Rattle.lam_value.specs.declared.values.Value.{Value}
use Rattle.lam_value.specs.declared.values.Value.TheVariants.{Thread}
use Rattle.lam_asks.specs.declared.answer.Answer.{Answer}
use Rattle.lam_asks.specs.declared.answer.Answer.TheVariants.{Val}
use Rattle.lam_asks.specs.declared.ask.Ask.TheVariants.{Spawn}
use Rattle.source_walk_state.specs.declared.Beginning.{Beginning}
use Rattle.source_walk_meets.specs.Births.{birth_by}
use Rattle.source_walk_run.specs.Beginnings.{is_thread, beginning_of}

pub no_thread : (f : ℕ) (vs : List Value) (k : Caps) (x : Answer) → is_thread x ≡ false → None ≡ option_map beginning_of (birth_by (Spawn f vs k) x)
no_thread f vs k (Val (Thread u)) e = absurd cc
no_thread f vs k x e = refl

pub a_thread : (f : ℕ) (vs : List Value) (k : Caps) (x : Answer) → is_thread x ≡ true → (b : Beginning) → b ≡ record { function = f; args = vs; caps = k } → Some b ≡ option_map beginning_of (birth_by (Spawn f vs k) x)
a_thread f vs k (Val (Thread u)) e b s = ap (λ (b : Beginning). Some b) s
a_thread f vs k x e b s = absurd cc
