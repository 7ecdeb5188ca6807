-- Why a document is no world, and how its members are looked at. What is looked at first breaks first.
use Rattle.std.specs.Prelude.{◌≡◌, ℕ, Bool, true, if◌then◌else◌, Option, Some, None, Result, Ok, Err, codes, string_bytes, refl}
use Rattle.serde_json.specs.Data.{Data, null, boolean, string, Members, no_members, member}
use Rattle.serde_json.specs.Find.{get_member, as_str, as_bool}
use Rattle.flow_labels.specs.TwoLists.{Text}
use Rattle.world_doc_terms.specs.declared.breaks.WorldBreak.{WorldBreak}
use Rattle.world_doc_terms.specs.declared.breaks.WorldBreak.TheVariants as code

pub data Break : Type 0 where
  NotJson : Break
  -- a member is not there
  NoMember : (name : Text) → Break
  -- a member is of another form than it must be
  BadMember : (name : Text) → Break
  -- no tag has the name
  NoTag : (name : Text) → Break
  -- an item of the tree has no place, or no room there
  BadPath : (index : ℕ) → Break
  -- an item of the tree stands where another does
  PathTwice : (index : ℕ) → Break

-- what a break in code is seen as
abbrev pub break_seen : WorldBreak → Break
break_seen code.NotJson = NotJson
break_seen (code.NoMember name) = NoMember (string_bytes name)
break_seen (code.BadMember name) = BadMember (string_bytes name)
break_seen (code.NoTag name) = NoTag (string_bytes name)
break_seen (code.BadPath index) = BadPath index
break_seen (code.PathTwice index) = PathTwice index

-- what is read, or the first break
abbrev pub Reading : Type 0 → Type 0
Reading X = Result X Break

-- one reading, and after it another
infixl 10 ◌>>=◌
abbrev pub ◌>>=◌ : {A B : Type 0} → Reading A → (A → Reading B) → Reading B
(Ok x) >>= f = f x
(Err e) >>= f = Err e

abbrev pub only_if : {A : Type 0} → Bool → A → Option A
only_if test x = if test then Some x else None

-- what a member must be
abbrev pub formed : {A : Type 0} → Text → Option A → Reading A
formed name None = Err (BadMember name)
formed name (Some x) = Ok x

abbrev pub present : Text → Option Data → Reading Data
present name None = Err (NoMember name)
present name (Some d) = Ok d

-- a member, in the form that it must have
abbrev pub member_as : {A : Type 0} → Text → (Data → Option A) → Members → Reading A
member_as name form ms = present name (get_member name ms) >>= λ d. formed name (form d)

-- ---- worked examples
absent : member_as (codes "path") as_str (member (codes "label") (string (codes "x")) no_members) ≡ Err (NoMember (codes "path"))
absent = refl

of_another_form : member_as (codes "path") as_str (member (codes "path") null no_members) ≡ Err (BadMember (codes "path"))
of_another_form = refl

as_it_must_be : member_as (codes "dir") as_bool (member (codes "dir") (boolean true) no_members) ≡ Ok true
as_it_must_be = refl
