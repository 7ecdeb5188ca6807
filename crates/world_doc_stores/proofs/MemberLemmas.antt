-- The members of a value.
use Rattle.std.proofs.Common.{◌≡◌, ℕ, List, true, false, Some, None, is_some, refl}
use Rattle.serde_json.specs.Data.{Data, null, boolean, number, string, array, object}
use Rattle.serde_json.specs.Find.{get, get_member, as_object}
use Rattle.world_doc_stores.specs.Seen.{members}

pub get_members : (name : List ℕ) (d : Data) → get name d ≡ get_member name (members d)
get_members name null = refl
get_members name (boolean b) = refl
get_members name (number n) = refl
get_members name (string s) = refl
get_members name (array ds) = refl
get_members name (object ms) = refl

pub object_is : (d : Data) → is_some (as_object d) ≡ true → as_object d ≡ Some (members d)
object_is null e = absurd cc
object_is (boolean b) e = absurd cc
object_is (number n) e = absurd cc
object_is (string s) e = absurd cc
object_is (array ds) e = absurd cc
object_is (object ms) e = refl

pub no_object : (d : Data) → is_some (as_object d) ≡ false → as_object d ≡ None
no_object null e = refl
no_object (boolean b) e = refl
no_object (number n) e = refl
no_object (string s) e = refl
no_object (array ds) e = refl
no_object (object ms) e = absurd cc
