-- The threads of a document stand at entries, with arguments of their kinds.
use Rattle.std.proofs.Common.{◌≡◌, ℕ, suc, ◌<◌, ◌≤◌, Bool, true, false, List, [], ◌∷◌, length, Option, Some, None, Ok, Err, refl, ap, subst, arith}
use Rattle.std.specs.Prelude.{IfOk, IfSome, IsTrue, nat_eq, nat_lt, nat_le, ◌&&◌, slice_get, codes, option_and_then}
use Rattle.std.specs.List.{AllByRecursion}
use Rattle.std.specs.FinMap.{empty}
use Rattle.std.proofs.lemmas.Bool.Decides.{nat_tests}
use Rattle.std.proofs.lemmas.Bool.{and_parts}
use Rattle.serde_json.specs.Data.{Data, Items, no_items, item, Members}
use Rattle.serde_json.specs.Find.{get_member, as_str, as_array, as_object}
use Rattle.serde_json.specs.Events.{items_len}
use Rattle.flow_labels.specs.TwoLists.{Text}
use Rattle.capabilities.specs.declared.Caps.{Caps}
use Rattle.capabilities.specs.Kinds.{public_of}
use Rattle.lam_value.specs.declared.names.Name.{Name}
use Rattle.lam_value.specs.declared.values.Value.{Value}
use Rattle.labelled_heap.specs.Things.{no_things}
use Rattle.labelled_files.specs.Trees.{Tree}
use Rattle.lam_bytecode.specs.Codes.{CodeTree, unit_named}
use Rattle.lam_bytecode.specs.declared.unit.ArgKind.{ArgKind}
use Rattle.lam_bytecode.specs.declared.unit.CodeUnit.{CodeUnit}
use Rattle.lam_bytecode.specs.declared.unit.UnitKind.{UnitKind}
use Rattle.lam_bytecode.specs.declared.unit.UnitKind.TheVariants.{Function}
use Rattle.thread_steps.specs.Threads.{Thread}
use Rattle.thread_steps.specs.Next.{started}
use Rattle.lam_machine_terms.specs.Worlds.{World}
use Rattle.world_doc_terms.specs.Breaks.{Reading, ◌>>=◌, only_if, formed, present, member_as}
use Rattle.world_doc_terms.specs.Tags.{FirstTags, tags_in, caps_in}
use Rattle.world_doc_terms.specs.declared.version.Version.{Version}
use Rattle.world_doc_terms.specs.Stores.{Pipes, pipes_in}
use Rattle.world_doc_terms.specs.Entries.{most_starting, Entry, entry_by, entry_named, argument, fits, fitting, arguments, args_in, thread_in, threads_of, threads_in}
use Rattle.world_doc_terms.specs.Start.{version_in, files_in, world_in}
use Rattle.world_doc_laws.specs.Standing.{AreArguments, IsEntry, StandsAtEntry, ThreadsStand}

-- ---- readings

module _ {A B : Type 0} where
  -- after what is not known anything of
  after : (r : Reading A) (f : A → Reading B) (P : B → Type 0) → ((x : A) → IfOk (f x) P) → IfOk (r >>= f) P
  after (Ok x) f P h = h x
  after (Err e) f P h = tt

  -- after what is known something of
  onward : (r : Reading A) (Q : A → Type 0) → IfOk r Q → (f : A → Reading B) (P : B → Type 0) → ((x : A) → Q x → IfOk (f x) P) → IfOk (r >>= f) P
  onward (Ok x) Q q f P h = h x q
  onward (Err e) Q q f P h = tt

module _ {A : Type 0} (P : A → Type 0) where
  formed_good : (name : Text) (o : Option A) → IfSome o P → IfOk (formed name o) P
  formed_good name None h = tt
  formed_good name (Some x) h = h

  member_good : (name : Text) (form : Data → Option A) (ms : Members) → ((d : Data) → IfSome (form d) P) → IfOk (member_as name form ms) P
  member_good name form ms h = by (get_member name ms)
    where
      by : (o : Option Data) → IfOk (present name o >>= λ d. formed name (form d)) P
      by None = tt
      by (Some d) = formed_good name (form d) (h d)

  tested : (test : Bool) (x : A) → (test ≡ true → P x) → IfSome (only_if test x) P
  tested true x h = h refl
  tested false x h = tt

  option_good : {C : Type 0} (f : C → Option A) (o : Option C) → ((x : C) → IfSome (f x) P) → IfSome (option_and_then f o) P
  option_good f None h = tt
  option_good f (Some x) h = h x

  ok_on : (Q : A → Type 0) → ((x : A) → P x → Q x) → (r : Reading A) → IfOk r P → IfOk r Q
  ok_on Q h (Ok x) k = h x k
  ok_on Q h (Err e) k = tt

-- ---- functions and arguments

fitting_good : (k : ArgKind) (v : Value) → IfOk (fitting k v) (λ u. IsTrue (fits k u))
fitting_good k v = formed_good (λ u. IsTrue (fits k u)) (codes "args") (only_if (fits k v) v) (tested (λ u. IsTrue (fits k u)) (fits k v) v (λ e. e))

module _ (names : List Text) (called : List (Text × Name)) where
  arguments_good : (ks : List ArgKind) (ds : Items) → IfOk (arguments names called ks ds) (AreArguments ks)
  arguments_good [] no_items = tt
  arguments_good (k ∷ ks) (item d ds) =
      after (formed (codes "args") (as_object d)) (λ ms. argument names called ms >>= λ v. fitting k v >>= λ same. arguments names called ks ds >>= λ vs. Ok (same ∷ vs)) (AreArguments (k ∷ ks))
      (λ ms. after (argument names called ms) (λ v. fitting k v >>= λ same. arguments names called ks ds >>= λ vs. Ok (same ∷ vs)) (AreArguments (k ∷ ks))
      (λ v. onward (fitting k v) (λ u. IsTrue (fits k u)) (fitting_good k v) (λ same. arguments names called ks ds >>= λ vs. Ok (same ∷ vs)) (AreArguments (k ∷ ks))
      (λ same f. onward (arguments names called ks ds) (AreArguments ks) (arguments_good ks ds) (λ vs. Ok (same ∷ vs)) (AreArguments (k ∷ ks)) (λ vs r. (f, r)))))
  arguments_good ks ds = tt

  args_good : (takes : List ArgKind) (ms : Members) → IfOk (args_in names called takes ms) (AreArguments takes)
  args_good takes ms =
      after (member_as (codes "args") (λ d. option_and_then (λ items. only_if (nat_eq (items_len items) (length takes)) items) (as_array d)) ms) (λ items. arguments names called takes items) (AreArguments takes)
      (λ items. arguments_good takes items)

module _ (code : CodeTree) where
  abbrev EntryGood : Entry → Type 0
  EntryGood e = IsEntry code e.unit e.takes

  by_kind : (n : ℕ) (u : CodeUnit) → slice_get code.units n ≡ Some u → (k : UnitKind) → u.kind ≡ k → IfSome (entry_by n k) EntryGood
  by_kind n u there (Function name takes true) is = record { name = name; it = u; there = there; is = is }
  by_kind n u there k is = tt

  by_unit : (n : ℕ) (o : Option CodeUnit) → slice_get code.units n ≡ o → IfSome (option_and_then (λ (u : CodeUnit). entry_by n u.kind) o) EntryGood
  by_unit n None there = tt
  by_unit n (Some u) there = by_kind n u there u.kind refl

  entry_good : (name : Text) → IfSome (entry_named code name) EntryGood
  entry_good name =
      option_good EntryGood (λ n. option_and_then (λ (u : CodeUnit). entry_by n u.kind) (slice_get code.units n)) (unit_named name code.units) (λ n. by_unit n (slice_get code.units n) refl)

  -- ---- threads

  module _ (names : List Text) (called : List (Text × Name)) where
    abbrev made : Entry → List Value → Caps → Reading Thread
    made entry args caps = Ok (started code entry.unit args caps)

    thread_good : (ms : Members) → IfOk (thread_in code names called ms) (StandsAtEntry code)
    thread_good ms =
        onward (member_as (codes "run") (λ d. option_and_then (entry_named code) (as_str d)) ms) EntryGood
        (member_good EntryGood (codes "run") (λ d. option_and_then (entry_named code) (as_str d)) ms (λ d. option_good EntryGood (entry_named code) (as_str d) entry_good))
        (λ entry. args_in names called entry.takes ms >>= λ args. caps_in names ms >>= λ caps. made entry args caps) (StandsAtEntry code)
        (λ entry h. onward (args_in names called entry.takes ms) (AreArguments entry.takes) (args_good names called entry.takes ms) (λ args. caps_in names ms >>= λ caps. made entry args caps) (StandsAtEntry code)
        (λ args a. after (caps_in names ms) (λ caps. made entry args caps) (StandsAtEntry code)
        (λ caps. record { unit = entry.unit; takes = entry.takes; args = args; caps = caps; entry = h; fitting = a; it = refl })))

    abbrev Good : ℕ → List Thread → Type 0
    Good n ths = (length ths ≡ n) × AllByRecursion (StandsAtEntry code) ths

    all_good : (ds : Items) → IfOk (threads_of code names called ds) (Good (items_len ds))
    all_good no_items = (refl, tt)
    all_good (item d ds) =
        after (formed (codes "threads") (as_object d)) (λ ms. thread_in code names called ms >>= λ th. threads_of code names called ds >>= λ ths. Ok (th ∷ ths)) (Good (suc (items_len ds)))
        (λ ms. onward (thread_in code names called ms) (StandsAtEntry code) (thread_good ms) (λ th. threads_of code names called ds >>= λ ths. Ok (th ∷ ths)) (Good (suc (items_len ds)))
        (λ th h. onward (threads_of code names called ds) (Good (items_len ds)) (all_good ds) (λ ths. Ok (th ∷ ths)) (Good (suc (items_len ds))) (λ ths r. (ap suc r.0, (h, r.1)))))

    abbrev Stand : List Thread → Type 0
    Stand ths = AllByRecursion (StandsAtEntry code) ths × ((0 < length ths) × (length ths ≤ most_starting))

    abbrev InNumber : Items → Type 0
    InNumber items = (nat_lt 0 (items_len items) && nat_le (items_len items) most_starting) ≡ true

    counted : (items : Items) → InNumber items → (ths : List Thread) → Good (items_len items) ths → Stand ths
    counted items e ths h =
        let tests = and_parts (nat_lt 0 (items_len items)) (nat_le (items_len items) most_starting) e in
        let first : nat_lt 0 (items_len items) ≡ true = tests.0 in
        let second : nat_le (items_len items) 64 ≡ true = tests.1 in
        let a : 0 < items_len items = grind (arith, nat_tests) in
        let b : items_len items ≤ 64 = grind (arith, nat_tests) in
        let is = h.0 in
        (h.1, (omega arith, omega arith))

    abbrev in_number : Data → Option Items
    in_number d = option_and_then (λ items. only_if (nat_lt 0 (items_len items) && nat_le (items_len items) most_starting) items) (as_array d)

    threads_good : (ms : Members) → IfOk (threads_in code names called ms) Stand
    threads_good ms =
        onward (member_as (codes "threads") in_number ms) InNumber
        (member_good InNumber (codes "threads") in_number ms
        (λ d. option_good InNumber (λ items. only_if (nat_lt 0 (items_len items) && nat_le (items_len items) most_starting) items) (as_array d) (λ items. tested InNumber (nat_lt 0 (items_len items) && nat_le (items_len items) most_starting) items (λ e. e))))
        (λ items. threads_of code names called items) Stand
        (λ items e. ok_on (Good (items_len items)) Stand (counted items e) (threads_of code names called items) (all_good items))

  -- ---- worlds

  module _ (ms : Members) where
    abbrev WorldStands : World → Type 0
    WorldStands w = AllByRecursion (StandsAtEntry code) w.threads × ((0 < length w.threads) × (length w.threads ≤ most_starting))

    abbrev whole : FirstTags → Tree → Pipes → List Thread → Reading World
    whole tags t p ths = Ok (record { names = tags.names; public = public_of tags.kinds; next_tag = length tags.names; heap = no_things; monitors = empty; files = t; pipes = p.queues; threads = ths })

    abbrev with_pipes : FirstTags → Tree → Pipes → Reading World
    with_pipes tags t p = threads_in code tags.names p.called ms >>= λ ths. whole tags t p ths

    abbrev with_tree : FirstTags → Tree → Reading World
    with_tree tags t = pipes_in tags.names ms >>= λ p. with_pipes tags t p

    abbrev with_names : Version → FirstTags → Reading World
    with_names version tags = files_in version tags.names ms >>= λ t. with_tree tags t

    members_stand : IfOk (world_in code ms) WorldStands
    members_stand =
        after (version_in ms) (λ version. tags_in version ms >>= λ tags. with_names version tags) WorldStands
        (λ version. after (tags_in version ms) (λ tags. with_names version tags) WorldStands
        (λ tags. after (files_in version tags.names ms) (λ t. with_tree tags t) WorldStands
        (λ t. after (pipes_in tags.names ms) (λ p. with_pipes tags t p) WorldStands
        (λ p. onward (threads_in code tags.names p.called ms) (Stand tags.names p.called) (threads_good tags.names p.called ms) (λ ths. whole tags t p ths) WorldStands (λ ths h. h)))))

  abbrev DocumentStands : World → Type 0
  DocumentStands w = AllByRecursion (StandsAtEntry code) w.threads × ((0 < length w.threads) × (length w.threads ≤ most_starting))

  pub stand : ThreadsStand code
  stand d w e =
      subst (λ (r : Reading World). IfOk r DocumentStands) e
      (after (formed (codes "version") (as_object d)) (λ ms. world_in code ms) DocumentStands members_stand)
