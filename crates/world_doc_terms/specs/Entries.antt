-- The threads of a document: each runs a function whose result is a number, with arguments and capabilities.
--
-- A function that takes a number and a tag is run with `[{"int":5},{"tag":"a"}]`. With `[{"tag":"a"},{"int":5}]`, and
-- with one argument alone, `args` is of another form.
use Rattle.std.specs.Prelude.{◌≡◌, ℕ, pos, ◌&&◌, Bool, true, false, nat_eq, nat_le, nat_lt, List, [], ◌∷◌, length, slice_get, Option, Some, None, Ok, Err, codes, option_and_then, option_map, refl}
use Rattle.serde_json.specs.Data.{Data, null, boolean, number, string, unsigned, Items, no_items, item, Members, no_members, member, object}
use Rattle.serde_json.specs.Find.{get_member, as_bool, as_number, as_i64, as_str, as_array, as_object}
use Rattle.serde_json.specs.Events.{items_len}
use Rattle.lam_value.specs.declared.names.Name.{Name}
use Rattle.lam_value.specs.declared.values.Value.{Value}
use Rattle.lam_value.specs.declared.values.Value.TheVariants.{Int, Bool as Truth, Bytes, Pipe, Tag}
use Rattle.flow_labels.specs.TwoLists.{Text}
use Rattle.lam_bytecode.specs.Codes.{CodeTree, unit_named}
use Rattle.lam_bytecode.specs.declared.unit.ArgKind.{ArgKind}
use Rattle.lam_bytecode.specs.declared.unit.ArgKind.TheVariants as kind
use Rattle.lam_bytecode.specs.declared.unit.CodeUnit.{CodeUnit}
use Rattle.lam_bytecode.specs.declared.unit.UnitKind.{UnitKind}
use Rattle.lam_bytecode.specs.declared.unit.UnitKind.TheVariants.{Function, Region}
use Rattle.lam_machine_terms.specs.Threads.{Thread}
use Rattle.lam_machine_terms.specs.Next.{started}
use Rattle.lam_machine_terms.specs.ThreadStepsLimits.{bytes_limit}
use Rattle.world_doc_terms.specs.Breaks.{BadMember, NoTag, Reading, ◌>>=◌, only_if, formed, member_as}
use Rattle.world_doc_terms.specs.Tags.{tag_of, caps_in}
use Rattle.world_doc_terms.specs.Stores.{pipe_called}

-- ---- functions

-- a unit at whose entry a thread may start, and what it takes
pub record Entry : Type 0 where
  pub unit : ℕ
  pub takes : List ArgKind

abbrev pub entry_by : ℕ → UnitKind → Option Entry
entry_by n (Function name takes gives_int) = only_if gives_int (record { unit = n; takes = takes })
entry_by n (Region region captures catch_at) = None

-- a function with a name, where its result is a number
abbrev pub entry_named : CodeTree → Text → Option Entry
entry_named code name = option_and_then (λ n. option_and_then (λ (u : CodeUnit). entry_by n u.kind) (slice_get code.units n)) (unit_named name code.units)

-- ---- arguments

abbrev pub int_of : Data → Reading Value
int_of d = formed (codes "int") (option_map Int (option_and_then as_i64 (as_number d)))

abbrev pub bool_of : Data → Reading Value
bool_of d = formed (codes "bool") (option_map Truth (as_bool d))

abbrev pub text_of : Data → Reading Value
text_of d = formed (codes "text") (option_and_then (λ bytes. only_if (nat_le (length bytes) bytes_limit) (Bytes bytes)) (as_str d))

abbrev pub tag_value : List Text → Data → Reading Value
tag_value names d = tag_of (codes "tag") names d >>= λ t. Ok (Tag t)

abbrev pub pipe_of : List (Text × Name) → Data → Reading Value
pipe_of called d = formed (codes "pipe") (option_map Pipe (option_and_then (pipe_called called) (as_str d)))

-- what is read of a content, before what is read of others, if it is there
abbrev pub if_there : (Data → Reading Value) → Option Data → List (Reading Value) → List (Reading Value)
if_there f None rest = rest
if_there f (Some d) rest = f d ∷ rest

-- what is read of the contents of an argument
abbrev pub contents : List Text → List (Text × Name) → Members → List (Reading Value)
contents names called ms =
    if_there int_of (get_member (codes "int") ms) (if_there bool_of (get_member (codes "bool") ms) (if_there text_of (get_member (codes "text") ms) (if_there (tag_value names) (get_member (codes "tag") ms) (if_there (pipe_of called) (get_member (codes "pipe") ms) []))))

-- of exactly one
abbrev pub the_only : List (Reading Value) → Reading Value
the_only [] = Err (BadMember (codes "args"))
the_only (x ∷ []) = x
the_only (x ∷ y ∷ rest) = Err (BadMember (codes "args"))

abbrev pub argument : List Text → List (Text × Name) → Members → Reading Value
argument names called ms = the_only (contents names called ms)

-- whether a value is of a parameter's kind
abbrev pub fits : ArgKind → Value → Bool
fits kind.Int (Int n) = true
fits kind.Bool (Truth b) = true
fits kind.Bytes (Bytes bytes) = true
fits kind.Tag (Tag t) = true
fits kind.Pipe (Pipe n) = true
fits k v = false

abbrev pub fitting : ArgKind → Value → Reading Value
fitting k v = formed (codes "args") (only_if (fits k v) v)

abbrev pub arguments : List Text → List (Text × Name) → List ArgKind → Items → Reading (List Value)
arguments names called [] no_items = Ok []
arguments names called (k ∷ ks) (item d ds) =
    formed (codes "args") (as_object d)
    >>= λ ms. argument names called ms
    >>= λ v. fitting k v
    >>= λ same. arguments names called ks ds >>= λ vs. Ok (same ∷ vs)
arguments names called ks ds = Err (BadMember (codes "args"))

-- as many as the parameters
abbrev pub args_in : List Text → List (Text × Name) → List ArgKind → Members → Reading (List Value)
args_in names called takes ms =
    member_as (codes "args") (λ d. option_and_then (λ items. only_if (nat_eq (items_len items) (length takes)) items) (as_array d)) ms
    >>= λ items. arguments names called takes items

-- ---- threads

abbrev pub thread_in : CodeTree → List Text → List (Text × Name) → Members → Reading Thread
thread_in code names called ms =
    member_as (codes "run") (λ d. option_and_then (entry_named code) (as_str d)) ms
    >>= λ entry. args_in names called entry.takes ms
    >>= λ args. caps_in names ms >>= λ caps. Ok (started code entry.unit args caps)

abbrev pub threads_of : CodeTree → List Text → List (Text × Name) → Items → Reading (List Thread)
threads_of code names called no_items = Ok []
threads_of code names called (item d ds) =
    formed (codes "threads") (as_object d)
    >>= λ ms. thread_in code names called ms
    >>= λ th. threads_of code names called ds >>= λ ths. Ok (th ∷ ths)

-- a run starts with no more threads than this
abbrev pub most_starting : ℕ
most_starting = 64

-- one at least, and no more than may start
abbrev pub threads_in : CodeTree → List Text → List (Text × Name) → Members → Reading (List Thread)
threads_in code names called ms =
    member_as (codes "threads") (λ d. option_and_then (λ items. only_if (nat_lt 0 (items_len items) && nat_le (items_len items) most_starting) items) (as_array d)) ms
    >>= λ items. threads_of code names called items

-- ---- worked examples
abbrev a_member : Text → Data → Members
a_member name d = member name d no_members

five : argument [] [] (a_member (codes "int") (number (unsigned 5))) ≡ Ok (Int (pos 5))
five = refl

no_number : argument [] [] (a_member (codes "int") (string (codes "x"))) ≡ Err (BadMember (codes "int"))
no_number = refl

unknown_tag : argument (codes "a" ∷ []) [] (a_member (codes "tag") (string (codes "b"))) ≡ Err (NoTag (codes "b"))
unknown_tag = refl

no_pipe : argument [] [] (a_member (codes "pipe") (string (codes "p"))) ≡ Err (BadMember (codes "pipe"))
no_pipe = refl

no_content : argument [] [] (a_member (codes "path") null) ≡ Err (BadMember (codes "args"))
no_content = refl

two_contents : argument [] [] (member (codes "bool") (boolean true) (a_member (codes "int") null)) ≡ Err (BadMember (codes "args"))
two_contents = refl

another_kind : arguments [] [] (kind.Int ∷ []) (item (object (a_member (codes "bool") (boolean true))) no_items) ≡ Err (BadMember (codes "args"))
another_kind = refl

content_before_kind : arguments [] [] (kind.Tag ∷ []) (item (object (a_member (codes "int") null)) no_items) ≡ Err (BadMember (codes "int"))
content_before_kind = refl

no_arguments : args_in [] [] (kind.Int ∷ []) (a_member (codes "args") null) ≡ Err (BadMember (codes "args"))
no_arguments = refl
