-- Steps that may have no answer.
use Rattle.std.proofs.Common.{◌≡◌, ℕ, ◌+◌, true, false, List, [], ◌∷◌, ◌++◌, map, Option, Some, None, is_some, IsSome, refl, sym, ap, ◌∙◌, append_assoc, cond, Bool, Result, Ok, Err, IfOk, OnOk, suc, ◌<◌, length, drop, get_or, add-one}
use Rattle.std.proofs.lemmas.List.{append-nil}
use Rattle.std.proofs.Math.Seq.{drop-cons}
use Rattle.std.specs.Option.{option_map}
use Rattle.std.specs.Str.{bytes_eq}
use Rattle.lam_operators.specs.Words.{Word}
use Rattle.lam_resolve_laws.specs.Resolved.{then_some, Found, found_from}
use Rattle.lam_resolve_tables.specs.Meets.{IsJoined}

-- the first step has an answer
pub first_some : {A B : Type 0} (o : Option A) (next : A → Option B) → IsSome (then_some o next) → IsSome o
unfolding then_some
first_some None next e = e
first_some (Some a) next e = refl

pub goes : {A B : Type 0} (o : Option A) (a : A) (next : A → Option B) → Some a ≡ o → then_some o next ≡ next a
unfolding then_some
goes o a next e = ap (λ o. then_some o next) (sym e)

-- and so has what follows it
pub next_some : {A B : Type 0} (o : Option A) (a : A) (next : A → Option B) → Some a ≡ o → IsSome (then_some o next) → IsSome (next a)
next_some o a next e h = sym (ap is_some (goes o a next e)) ∙ h

pub some_not_none : {A : Type 0} (o : Option A) → IsSome o → o ≡ None → ⊥
some_not_none None e h = absurd cc
some_not_none (Some a) e h = absurd cc

pub then_assoc : {A B C : Type 0} (o : Option A) (f : A → Option B) (g : B → Option C) → then_some (then_some o f) g ≡ then_some o (λ a. then_some (f a) g)
unfolding then_some
then_assoc None f g = refl
then_assoc (Some a) f g = refl

pub then_map : {A B C : Type 0} (f : A → B) (o : Option A) (g : B → Option C) → then_some (option_map f o) g ≡ then_some o (λ a. g (f a))
unfolding then_some
then_map f None g = refl
then_map f (Some a) g = refl

-- a look-up, as it is seen
abbrev pub seen_it : {X A : Type 0} → (X → A) → Found X → Found A
seen_it see p = record { number = p.number; it = see p.it }

cond_seen : {X A : Type 0} (see : X → A) (b : Bool) (f : Found X) (o : Option (Found X)) (p : Option (Found A)) → p ≡ option_map (seen_it see) o → cond b (Some (seen_it see f)) p ≡ option_map (seen_it see) (cond b (Some f) o)
cond_seen see true f o p e = refl
cond_seen see false f o p e = e

pub found_seen : {X A : Type 0} (see : X → A) (n : ℕ) (x : Word) (es : List (Word × X)) → found_from n x (map (λ e. (e.0, see e.1)) es) ≡ option_map (seen_it see) (found_from n x es)
found_seen see n x [] = refl
found_seen see n x (e ∷ es) = cond_seen see (bytes_eq x e.0) (record { number = n; it = e.1 }) (found_from (n + 1) x es) _ (found_seen see (n + 1) x es)

pub if_ok : {A E : Type 0} (r : Result A E) (P Q : A → Type 0) → IfOk r P → ((a : A) → P a → Q a) → IfOk r Q
if_ok (Ok a) P Q p f = f a p
if_ok (Err e) P Q p f = tt

-- ---- lists that are made item by item

-- the whole is what is done, and then the rest
pub record Collected {A : Type 0} (whole rest : Option (List A)) (done : List A) : Type 0 where
  pub joins : whole ≡ then_some rest (λ bs. Some (done ++ bs))

then_itself : {A : Type 0} (o : Option (List A)) (done : List A) → done ≡ [] → o ≡ then_some o (λ bs. Some (done ++ bs))
unfolding then_some
then_itself None done e = refl
then_itself (Some bs) done e = sym (ap (λ d. Some (d ++ bs)) e)

pub collected_first : {A : Type 0} (o : Option (List A)) (done : List A) → done ≡ [] → Collected o o done
collected_first o done e = record { joins = then_itself o done e }

pub collected_some : {A : Type 0} (w r : Option (List A)) (done : List A) → Collected w r done → IsSome w → IsSome r
collected_some w r done c h = first_some r (λ bs. Some (done ++ bs)) (sym (ap is_some c.joins) ∙ h)

pub collected_last : {A : Type 0} (w r : Option (List A)) (done : List A) → Collected w r done → r ≡ Some [] → Some done ≡ w
collected_last w r done c e = ap Some (sym (append-nil done)) ∙ sym (c.joins ∙ goes r [] (λ bs. Some (done ++ bs)) (sym e))

chunk : {A : Type 0} (rest : Option (List A)) (done a : List A) → then_some (then_some rest (λ bs. Some (a ++ bs))) (λ bs. Some (done ++ bs)) ≡ then_some rest (λ bs. Some ((done ++ a) ++ bs))
unfolding then_some
chunk None done a = refl
chunk (Some bs) done a = ap Some (sym (append_assoc done a bs))

done_is : {A : Type 0} (done next a : List A) → Some next ≡ then_some (Some a) (λ bs. Some (done ++ bs)) → done ++ a ≡ next
unfolding then_some
done_is done next a e = cc

chunks : {A : Type 0} (o rest : Option (List A)) (done next : List A) → IsJoined done o next → then_some (then_some o (λ a. then_some rest (λ bs. Some (a ++ bs)))) (λ bs. Some (done ++ bs)) ≡ then_some rest (λ bs. Some (next ++ bs))
unfolding then_some
chunks None rest done next e = absurd cc
chunks (Some a) rest done next e = chunk rest done a ∙ ap (λ (d : List _). then_some rest (λ bs. Some (d ++ bs))) (done_is done next a e)

-- what stands for some more
pub collected_more : {A : Type 0} (w r o rest : Option (List A)) (done next : List A) → Collected w r done → r ≡ then_some o (λ a. then_some rest (λ bs. Some (a ++ bs))) → IsJoined done o next → Collected w rest next
collected_more w r o rest done next c e j = record { joins = c.joins ∙ ap (λ r. then_some r (λ bs. Some (done ++ bs))) e ∙ chunks o rest done next j }

one_chunk : {T A : Type 0} (o : Option T) (f : T → A) (rest : Option (List A)) → then_some o (λ t. then_some rest (λ bs. Some (f t ∷ bs))) ≡ then_some (then_some o (λ t. Some (f t ∷ []))) (λ a. then_some rest (λ bs. Some (a ++ bs)))
unfolding then_some
one_chunk None f rest = refl
one_chunk (Some t) f rest = refl

-- one more
pub collected_one : {T A : Type 0} (w r rest : Option (List A)) (o : Option T) (f : T → A) (t : T) (done next : List A) → Collected w r done → r ≡ then_some o (λ t. then_some rest (λ bs. Some (f t ∷ bs))) → Some t ≡ o → next ≡ done ++ f t ∷ [] →
    Collected w rest next
collected_one w r rest o f t done next c e h n =
    collected_more w r (then_some o (λ t. Some (f t ∷ []))) rest done next c (e ∙ one_chunk o f rest)
    (ap Some n ∙ sym (ap (λ o. then_some o (λ bs. Some (done ++ bs))) (goes o t (λ t. Some (f t ∷ [])) h) ∙ goes (Some (f t ∷ [])) (f t ∷ []) (λ bs. Some (done ++ bs)) refl))

pub one_more : {A : Type 0} (xs : List A) (i : ℕ) (x : A) → i < length xs → x ≡ get_or xs i x → drop i xs ≡ x ∷ drop (i + 1) xs
one_more xs i x lt is = drop-cons xs i x lt ∙ ap (λ w. w ∷ drop (suc i) xs) (sym is) ∙ ap (λ k. x ∷ drop k xs) (sym (add-one i))

pub map_push : {X Y : Type 0} (f : X → Y) (xs : List X) (x : X) → map f (xs ++ x ∷ []) ≡ map f xs ++ f x ∷ []
map_push f [] x = refl
map_push f (y ∷ xs) x = ap (λ l. f y ∷ l) (map_push f xs x)

pub on_ok : {A E P Q : Type 0} (r : Result A E) → OnOk r P → (P → Q) → OnOk r Q
on_ok (Ok a) p f = f p
on_ok (Err e) p f = tt

pub item_more : {A : Type 0} (xs : List A) (i : ℕ) (d : A) → i < length xs → drop i xs ≡ get_or xs i d ∷ drop (i + 1) xs
item_more xs i d lt = drop-cons xs i d lt ∙ ap (λ k. get_or xs i d ∷ drop k xs) (sym (add-one i))
