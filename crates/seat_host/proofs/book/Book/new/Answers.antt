use Rattle.std.proofs.Common.{◌≡◌, ℕ, [], List, Option, refl, sym, subst}
use Rattle.seat_host.specs.Books.{IsBook}
use Rattle.seat_host.proofs.book.Book.new.Goals as goal

nothing : IsBook [] [] [] 0
nothing = record { turns_are = refl; lengths = refl; last = λ t. refl }

no_places : (turns held : List ℕ) (table : List (Option ℕ)) → turns ≡ [] → held ≡ [] → table ≡ [] → IsBook turns held table 0
no_places turns held table t h l =
    subst (λ (ts : List ℕ). IsBook ts held table 0) (sym t) (subst (λ (hs : List ℕ). IsBook [] hs table 0) (sym h) (subst (λ (ls : List (Option ℕ)). IsBook [] [] ls 0) (sym l) nothing))

pub invariant_of-result : goal.invariant_of-result
invariant_of-result c = no_places c.args.run.turns c.new.result.items c.new-2.result.items c.requires c.new.ensures.items c.new-2.ensures.items
