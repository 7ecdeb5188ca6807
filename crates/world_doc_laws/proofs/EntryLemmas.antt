-- The threads of a document just start: their arguments live, and the tags of their capabilities are known.
use Rattle.std.proofs.Common.{ℕ, ◌<◌, Bool, true, false, cond, List, [], ◌∷◌, length, Option, Some, None, Ok, refl}
use Rattle.std.specs.Prelude.{IfOk, IfSome, nat_eq, nat_lt, nat_le, ◌&&◌, codes, option_map, option_and_then}
use Rattle.std.specs.List.{AllByRecursion}
use Rattle.std.specs.Map.{lookup}
use Rattle.serde_json.specs.Data.{Data, Items, no_items, item, Members}
use Rattle.serde_json.specs.Find.{get_member, as_bool, as_number, as_i64, as_str, as_array, as_object}
use Rattle.serde_json.specs.Events.{items_len}
use Rattle.flow_labels.specs.TwoLists.{Text}
use Rattle.capabilities.specs.declared.Caps.{Caps}
use Rattle.lam_value.specs.declared.names.Name.{Name}
use Rattle.lam_value.specs.declared.values.Value.{Value}
use Rattle.lam_value.specs.declared.values.Value.TheVariants.{Int, Bool as Truth, Bytes, Pipe, Tag}
use Rattle.labelled_files.specs.Entries.{text_eq}
use Rattle.labelled_files.specs.Trees.{Tree}
use Rattle.labelled_pipes.specs.Queues.{Queues}
use Rattle.lam_bytecode.specs.Codes.{CodeTree}
use Rattle.lam_bytecode.specs.declared.unit.ArgKind.{ArgKind}
use Rattle.thread_steps.specs.Threads.{Thread}
use Rattle.thread_steps.specs.Next.{started}
use Rattle.thread_steps.specs.Limits.{bytes_limit}
use Rattle.lam_machine_terms.specs.Worlds.{World}
use Rattle.lam_machine_terms.specs.Valid.{Lives, AllLive}
use Rattle.lam_machine_means.specs.Steps.{IsStart}
use Rattle.world_doc_terms.specs.Breaks.{Reading, ◌>>=◌, only_if, formed, member_as}
use Rattle.world_doc_terms.specs.Tags.{FirstTags, tag_of, caps_in}
use Rattle.world_doc_terms.specs.Stores.{pipe_called}
use Rattle.world_doc_terms.specs.Entries.{most_starting, Entry, entry_named, int_of, bool_of, text_of, tag_value, pipe_of, if_there, contents, the_only, argument, fits, fitting, arguments, args_in, thread_in, threads_of, threads_in}
use Rattle.world_doc_laws.proofs.ReadLemmas.{after, onward, formed_good, tested, option_good, tag_below, CapsBelow, caps_known}
use Rattle.world_doc_laws.proofs.StoreLemmas.{staged, CalledLives}

-- ---- what is read of a content

module _ (P : Value → Type 0) where
  mapped : {A : Type 0} (name : Text) (f : A → Value) (o : Option A) → IfSome o (λ x. P (f x)) → IfOk (formed name (option_map f o)) P
  mapped name f None h = tt
  mapped name f (Some x) h = h

  any_mapped : {A : Type 0} (name : Text) (f : A → Value) (o : Option A) → ((x : A) → P (f x)) → IfOk (formed name (option_map f o)) P
  any_mapped name f None h = tt
  any_mapped name f (Some x) h = h x

  abbrev AllGood : List (Reading Value) → Type 0
  AllGood rs = AllByRecursion (λ (r : Reading Value). IfOk r P) rs

  there_good : (f : Data → Reading Value) → ((d : Data) → IfOk (f d) P) → (o : Option Data) (rest : List (Reading Value)) → AllGood rest → AllGood (if_there f o rest)
  there_good f h None rest k = k
  there_good f h (Some d) rest k = (h d, k)

  only_good : (rs : List (Reading Value)) → AllGood rs → IfOk (the_only rs) P
  only_good [] h = tt
  only_good (r ∷ []) h = h.0
  only_good (r ∷ s ∷ rs) h = tt

looked : (P : Name → Type 0) (test : Text → Bool) (es : List (Text × Name)) → AllByRecursion (λ (e : Text × Name). P e.1) es → IfSome (lookup test es) P
looked P test [] h = tt
looked P test (e ∷ es) h = by (test e.0) (looked P test es h.1)
  where
    by : (b : Bool) → IfSome (lookup test es) P → IfSome (cond b (Some e.1) (lookup test es)) P
    by true k = h.0
    by false k = k

module _ (tags : FirstTags) (t : Tree) (q : Queues) (called : List (Text × Name)) (pipes : AllByRecursion (CalledLives tags t q) called) where
  abbrev names : List Text
  names = tags.names

  abbrev w : World
  w = staged tags t q []

  abbrev Good : Value → Type 0
  Good v = Lives w v

  -- ---- arguments

  int_good : (d : Data) → IfOk (int_of d) Good
  int_good d = any_mapped Good (codes "int") Int (option_and_then as_i64 (as_number d)) (λ n. tt)

  bool_good : (d : Data) → IfOk (bool_of d) Good
  bool_good d = any_mapped Good (codes "bool") Truth (as_bool d) (λ b. tt)

  text_good : (d : Data) → IfOk (text_of d) Good
  text_good d =
      formed_good Good (codes "text") (option_and_then (λ bytes. only_if (nat_le (length bytes) bytes_limit) (Bytes bytes)) (as_str d))
      (option_good Good (λ bytes. only_if (nat_le (length bytes) bytes_limit) (Bytes bytes)) (as_str d) (λ bytes. tested Good (nat_le (length bytes) bytes_limit) (Bytes bytes) (λ e. tt)))

  tag_good : (d : Data) → IfOk (tag_value names d) Good
  tag_good d = onward (tag_of (codes "tag") names d) (λ (n : ℕ). n < length names) (tag_below names (codes "tag") d) (λ n. Ok (Tag n)) Good (λ n l. l)

  pipe_good : (d : Data) → IfOk (pipe_of called d) Good
  pipe_good d =
      mapped Good (codes "pipe") Pipe (option_and_then (pipe_called called) (as_str d))
      (option_good (λ n. Good (Pipe n)) (pipe_called called) (as_str d) (λ text. looked (λ n. Good (Pipe n)) (text_eq text) called pipes))

  argument_good : (ms : Members) → IfOk (argument names called ms) Good
  argument_good ms =
      let five = there_good Good (pipe_of called) pipe_good (get_member (codes "pipe") ms) [] tt in
      let four = there_good Good (tag_value names) tag_good (get_member (codes "tag") ms) (if_there (pipe_of called) (get_member (codes "pipe") ms) []) five in
      let three = there_good Good text_of text_good (get_member (codes "text") ms) (if_there (tag_value names) (get_member (codes "tag") ms) (if_there (pipe_of called) (get_member (codes "pipe") ms) [])) four in
      let two = there_good Good bool_of bool_good (get_member (codes "bool") ms) (if_there text_of (get_member (codes "text") ms) (if_there (tag_value names) (get_member (codes "tag") ms) (if_there (pipe_of called) (get_member (codes "pipe") ms) []))) three in
      let one = there_good Good int_of int_good (get_member (codes "int") ms) (if_there bool_of (get_member (codes "bool") ms) (if_there text_of (get_member (codes "text") ms) (if_there (tag_value names) (get_member (codes "tag") ms) (if_there (pipe_of called) (get_member (codes "pipe") ms) [])))) two in
      only_good Good (contents names called ms) one

  fitting_good : (k : ArgKind) (v : Value) → Good v → IfOk (fitting k v) Good
  fitting_good k v h = formed_good Good (codes "args") (only_if (fits k v) v) (tested Good (fits k v) v (λ e. h))

  abbrev AllGoodValues : List Value → Type 0
  AllGoodValues vs = AllLive w vs

  arguments_good : (ks : List ArgKind) (ds : Items) → IfOk (arguments names called ks ds) AllGoodValues
  arguments_good [] no_items = tt
  arguments_good (k ∷ ks) (item d ds) =
      after (formed (codes "args") (as_object d)) (λ ms. argument names called ms >>= λ v. fitting k v >>= λ same. arguments names called ks ds >>= λ vs. Ok (same ∷ vs)) AllGoodValues
      (λ ms. onward (argument names called ms) Good (argument_good ms) (λ v. fitting k v >>= λ same. arguments names called ks ds >>= λ vs. Ok (same ∷ vs)) AllGoodValues
      (λ v h. onward (fitting k v) Good (fitting_good k v h) (λ same. arguments names called ks ds >>= λ vs. Ok (same ∷ vs)) AllGoodValues
      (λ same f. onward (arguments names called ks ds) AllGoodValues (arguments_good ks ds) (λ vs. Ok (same ∷ vs)) AllGoodValues (λ vs r. (f, r)))))
  arguments_good ks ds = tt

  args_good : (takes : List ArgKind) (ms : Members) → IfOk (args_in names called takes ms) AllGoodValues
  args_good takes ms =
      after (member_as (codes "args") (λ d. option_and_then (λ items. only_if (nat_eq (items_len items) (length takes)) items) (as_array d)) ms) (λ items. arguments names called takes items) AllGoodValues
      (λ items. arguments_good takes items)

  -- ---- threads

  module _ (code : CodeTree) where
    abbrev Starts : Thread → Type 0
    Starts th = IsStart code w th

    abbrev pub AllStart : List Thread → Type 0
    AllStart ths = AllByRecursion (IsStart code w) ths

    abbrev made : Entry → List Value → Caps → Reading Thread
    made entry args caps = Ok (started code entry.unit args caps)

    thread_good : (ms : Members) → IfOk (thread_in code names called ms) Starts
    thread_good ms =
        after (member_as (codes "run") (λ d. option_and_then (entry_named code) (as_str d)) ms)
        (λ entry. args_in names called entry.takes ms >>= λ args. caps_in names ms >>= λ caps. made entry args caps) Starts
        (λ entry. onward (args_in names called entry.takes ms) AllGoodValues (args_good entry.takes ms) (λ args. caps_in names ms >>= λ caps. made entry args caps) Starts
        (λ args a. onward (caps_in names ms) (CapsBelow names) (caps_known names ms) (λ caps. made entry args caps) Starts
        (λ caps c. record { unit = entry.unit; args = args; caps = caps; it = refl; lives = a; known = c })))

    all_threads_good : (ds : Items) → IfOk (threads_of code names called ds) AllStart
    all_threads_good no_items = tt
    all_threads_good (item d ds) =
        after (formed (codes "threads") (as_object d)) (λ ms. thread_in code names called ms >>= λ th. threads_of code names called ds >>= λ ths. Ok (th ∷ ths)) AllStart
        (λ ms. onward (thread_in code names called ms) Starts (thread_good ms) (λ th. threads_of code names called ds >>= λ ths. Ok (th ∷ ths)) AllStart
        (λ th h. onward (threads_of code names called ds) AllStart (all_threads_good ds) (λ ths. Ok (th ∷ ths)) AllStart (λ ths r. (h, r))))

    pub threads_good : (ms : Members) → IfOk (threads_in code names called ms) AllStart
    threads_good ms =
        after (member_as (codes "threads") (λ d. option_and_then (λ items. only_if (nat_lt 0 (items_len items) && nat_le (items_len items) most_starting) items) (as_array d)) ms) (λ items. threads_of code names called items) AllStart
        (λ items. all_threads_good items)
