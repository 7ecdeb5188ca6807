-- That nested code does what its program means.
use Rattle.std.specs.Prelude.{◌≡◌, ◌≢◌, ℕ, List, length, Some, slice_get}
use Rattle.capabilities.specs.declared.Caps.{Caps}
use Rattle.lam_value.specs.declared.values.Value.{Value}
use Rattle.lam_asks.specs.declared.answer.Answer.{Answer}
use Rattle.lam_resolve_tree.specs.Tree.{ResolvedFunction, ResolvedTree}
use Rattle.lam_resolve_tree.specs.Typing.{IsTypedTree}
use Rattle.lam_resolve_tree.specs.Regions.{AreNumbered}
use Rattle.lam_meaning_typed.specs.Means.{means}
use Rattle.lam_meaning_typed.specs.Plays.{is_broken, asks_of, how_of, AllFit, asks_made}
use Rattle.lam_meaning_laws.specs.Gathers.{thread_acts}

-- the same asks, and it stands as the meaning does, where the answers suit and no operand is of another kind than its place
abbrev pub NestedMeans : ResolvedTree → Type 0
NestedMeans r =
    IsTypedTree r → AreNumbered r → (n f : ℕ) (fn : ResolvedFunction) (vs : List Value) (k : Caps) (xs : List Answer) → slice_get r.functions f ≡ Some fn → length vs ≡ length fn.params →
    AllFit (asks_of (means r n f vs k) xs) xs → how_of (means r n f vs k) xs ≢ is_broken →
    ((thread_acts r n f vs k xs).asks ≡ asks_made r n f vs k xs) × ((thread_acts r n f vs k xs).how ≡ how_of (means r n f vs k) xs)
