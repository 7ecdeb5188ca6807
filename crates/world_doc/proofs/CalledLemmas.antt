-- What a document calls its pipes is what the table has.
use Rattle.std.proofs.Common.{◌≡◌, ◌≢◌, ℕ, ◌≤◌, Bool, true, false, not, cond, ltb, List, [], ◌∷◌, ◌++◌, Option, Some, None, is_some, Ok, Err, refl, sym, ap, ◌∙◌, Bor, arith}
use Rattle.std.specs.Prelude.{codes}
use Rattle.std.proofs.lemmas.Bool.Decides.{nat_tests}
use Rattle.indexmap.specs.IndexMap.{insert_entry}
use Rattle.lam_value.specs.Homes.{Home, name_of, count_in}
use Rattle.labelled_pipes.specs.Queues.{Queues, with_pipe}
use Rattle.world_doc_terms.specs.Breaks.{BadMember, only_if, formed, member_as}
use Rattle.std.specs.Map.{lookup}
use Rattle.serde_json.specs.Data.{Members}
use Rattle.serde_json.specs.Find.{as_str}
use Rattle.lam_value.specs.declared.names.Name.{Name}
use Rattle.flow_labels.specs.TwoLists.{Text}
use Rattle.labelled_files.specs.Entries.{text_eq}
use Rattle.world_doc_terms.specs.Stores.{Pipes, pipe_called, new_name, with_called}
use Rattle.world_doc.specs.Called.{called_of, pipes_of}
use Rattle.world_doc_stores.proofs.MemberOn.{member_on}

abbrev pub key_is : Text → Bor Text → Bool
key_is text = λ k. text_eq text k.now

-- a look-up in the table
pub found : (text : Text) (es : List (Bor Text × Name)) → pipe_called (called_of es) text ≡ lookup (key_is text) es
found text [] = refl
found text (e ∷ es) = ap (cond (text_eq text e.0.now) (Some e.1)) (found text es)

pub not_there : {X : Type 0} (o : Option X) → is_some o ≡ false → o ≡ None
not_there None e = refl
not_there (Some x) e = absurd cc

abbrev pub key_eq : Bor Text → Bor Text → Bool
key_eq a b = text_eq a.now b.now

-- a new name goes last
pub called_put : (es : List (Bor Text × Name)) (k : Bor Text) (n : Name) → pipe_called (called_of es) k.now ≡ None → called_of (insert_entry key_eq es k n) ≡ called_of es ++ (k.now, n) ∷ []
called_put [] k n = λ none. refl
called_put (e ∷ es) k n =
    elim (text_eq k.now e.0.now) as (λ v. cond v (Some e.1) (pipe_called (called_of es) k.now) ≡ None → called_of (cond v ((e.0, n) ∷ es) (e ∷ insert_entry key_eq es k n)) ≡ (e.0.now, e.1) ∷ (called_of es ++ (k.now, n) ∷ [])) [
      | true ↦ λ none. absurd cc
      | false ↦ λ none. ap (λ (rest : List (Text × Name)). (e.0.now, e.1) ∷ rest) (called_put es k n none)
    ]

-- ---- a home's pipes

pub with_called_room : (p : Pipes) (text : Text) (home : Home) (n : ℕ) → n ≡ count_in p.queues.counts home → n ≤ 4096 → n ≢ 4096 →
    with_called p text home ≡ Ok (record { queues = with_pipe p.queues home; called = p.called ++ (text, name_of home (count_in p.queues.counts home)) ∷ [] })
with_called_room p text home n is most other = let room : ltb (count_in p.queues.counts home) 4096 ≡ true = grind (arith, nat_tests) in rw room refl

-- the pipe that was made, by its name
pub pipe_added : (old new : Queues) (es fs : List (Bor Text × Name)) (k : Bor Text) (pipe : Name) (home : Home) (n : ℕ) → n ≡ count_in old.counts home → n ≤ 4096 → n ≢ 4096 → pipe_called (called_of es) k.now ≡ None → pipe ≡ name_of home (count_in old.counts home) → new ≡ with_pipe old home → fs ≡ insert_entry key_eq es k pipe →
    with_called (pipes_of old es) k.now home ≡ Ok (pipes_of new fs)
pipe_added old new es fs k pipe home n is most other none named made put =
    with_called_room (pipes_of old es) k.now home n is most other ∙
    (λ i. Ok (record { queues = sym made i; called = later i }))
  where
    later : called_of es ++ (k.now, name_of home (count_in old.counts home)) ∷ [] ≡ called_of fs
    later = ap (λ (m : Name). called_of es ++ (k.now, m) ∷ []) (sym named) ∙ sym (called_put es k pipe none) ∙ ap called_of (sym put)

-- ---- a name that no pipe before has

abbrev pub unless_called : List (Bor Text × Name) → Text → Option Text
unless_called es text = only_if (not (is_some (pipe_called (called_of es) text))) text

by_called : (es : List (Bor Text × Name)) (text : Text) (b r : Bool) → r ≡ is_some (lookup (key_is text) es) → r ≡ b → formed (codes "name") (unless_called es text) ≡ formed (codes "name") (only_if (not b) text)
by_called es text b r is t = ap (λ (b : Bool). formed (codes "name") (only_if (not b) text)) (ap is_some (found text es) ∙ sym is ∙ t)

pub name_taken : (es : List (Bor Text × Name)) (ms : Members) (text : Text) (r : Bool) → member_as (codes "name") as_str ms ≡ Ok text → r ≡ is_some (lookup (key_is text) es) → r ≡ true → member_as (codes "name") (new_name (called_of es)) ms ≡ Err (BadMember (codes "name"))
name_taken es ms text r e is t = member_on (codes "name") as_str (unless_called es) ms text e ∙ by_called es text true r is t

pub name_new : (es : List (Bor Text × Name)) (ms : Members) (text : Text) (r : Bool) → member_as (codes "name") as_str ms ≡ Ok text → r ≡ is_some (lookup (key_is text) es) → r ≡ false → member_as (codes "name") (new_name (called_of es)) ms ≡ Ok text
name_new es ms text r e is f = member_on (codes "name") as_str (unless_called es) ms text e ∙ by_called es text false r is f
