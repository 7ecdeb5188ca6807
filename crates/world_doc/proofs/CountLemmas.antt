-- How many arguments and threads there are.
use Rattle.std.proofs.Common.{◌≡◌, ◌≢◌, ℕ, ◌&&◌, Bool, true, false, eqb, ltb, leb, List, length, Ok, Err, sym, ◌∙◌, arith}
use Rattle.std.specs.Prelude.{codes}
use Rattle.std.proofs.lemmas.Bool.Decides.{nat_tests}
use Rattle.serde_json.specs.Data.{Members}
use Rattle.serde_json.specs.Find.{as_array}
use Rattle.serde_json.specs.View.{items_view}
use Rattle.serde_json.specs.declared.value.Value.{Value as Json}
use Rattle.flow_labels.specs.TwoLists.{Text}
use Rattle.lam_value.specs.declared.names.Name.{Name}
use Rattle.lam_bytecode.specs.Codes.{CodeTree}
use Rattle.lam_bytecode.specs.declared.unit.ArgKind.{ArgKind}
use Rattle.world_doc_terms.specs.Breaks.{BadMember, member_as}
use Rattle.world_doc_terms.specs.Entries.{arguments, args_in, threads_of, threads_in}
use Rattle.world_doc_stores.specs.declared.fault.WorldFault.{WorldFault}
use Rattle.world_doc_stores.specs.Meaning.{Fails}
use Rattle.world_doc_stores.proofs.CountLemmas.{right_count, wrong_count, no_list}

same_test : (n m : ℕ) → n ≡ m → eqb n m ≡ true
same_test n m e = grind (arith, nat_tests)

other_test : (n m : ℕ) → n ≢ m → eqb n m ≡ false
other_test n m e = grind (arith, nat_tests)

module _ (names : List Text) (called : List (Text × Name)) (takes : List ArgKind) (ms : Members) where
  pub args_counted : (xs : List Json) → member_as (codes "args") as_array ms ≡ Ok (items_view xs) → length xs ≡ length takes → args_in names called takes ms ≡ arguments names called takes (items_view xs)
  args_counted xs e same = right_count (codes "args") (λ n. eqb n (length takes)) ms (arguments names called takes) xs e (same_test (length xs) (length takes) same)

  pub args_other : (xs : List Json) → member_as (codes "args") as_array ms ≡ Ok (items_view xs) → length xs ≢ length takes → args_in names called takes ms ≡ Err (BadMember (codes "args"))
  args_other xs e other = wrong_count (codes "args") (λ n. eqb n (length takes)) ms (arguments names called takes) xs e (other_test (length xs) (length takes) other)

  pub args_off : (e : WorldFault) → Fails e (member_as (codes "args") as_array ms) → Fails e (args_in names called takes ms)
  args_off e h = no_list (codes "args") (λ n. eqb n (length takes)) ms (arguments names called takes) e h

module _ (code : CodeTree) (names : List Text) (called : List (Text × Name)) (ms : Members) where
  pub threads_counted : (xs : List Json) (b : Bool) → member_as (codes "threads") as_array ms ≡ Ok (items_view xs) → b ≡ (ltb 0 (length xs) && leb (length xs) 64) → b ≡ true → threads_in code names called ms ≡ threads_of code names called (items_view xs)
  threads_counted xs b e is t = right_count (codes "threads") (λ n. ltb 0 n && leb n 64) ms (threads_of code names called) xs e (sym is ∙ t)

  pub threads_other : (xs : List Json) (b : Bool) → member_as (codes "threads") as_array ms ≡ Ok (items_view xs) → b ≡ (ltb 0 (length xs) && leb (length xs) 64) → b ≡ false → threads_in code names called ms ≡ Err (BadMember (codes "threads"))
  threads_other xs b e is f = wrong_count (codes "threads") (λ n. ltb 0 n && leb n 64) ms (threads_of code names called) xs e (sym is ∙ f)

  pub threads_off : (e : WorldFault) → Fails e (member_as (codes "threads") as_array ms) → Fails e (threads_in code names called ms)
  threads_off e h = no_list (codes "threads") (λ n. ltb 0 n && leb n 64) ms (threads_of code names called) e h
