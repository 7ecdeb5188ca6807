-- What a loop over characters keeps.
use Rattle.std.proofs.Common.{◌≡◌, ℕ, ◌+◌, ◌-◌, ◌*◌, ◌^◌, ◌<◌, ◌≤◌, Bool, true, false, cond, List, [], ◌∷◌, ◌++◌, Option, Some, None, IfSome, length, encode_utf8, encode_utf8_all, chars, IsUtf8, refl, sym, ap, ◌∙◌, subst, arith, length-append}
use Rattle.std.proofs.lemmas.Str.{encodes-append, encodes-chars, length-encode, length-le-encodes}
use Rattle.std.specs.Char.{len_utf8}
use Rattle.lam_lexer.specs.Characters.{is_digit, stays_on_line, run, past, goes_on, number, number_after}
use Rattle.lam_lexer.specs.Reading.{size, IsValue}

pub at_true : {X : Type 0} (b : Bool) (x y : X) → b ≡ true → cond b x y ≡ x
at_true b x y h = ap (λ (b : Bool). cond b x y) h

pub at_false : {X : Type 0} (b : Bool) (x y : X) → b ≡ false → cond b x y ≡ y
at_false b x y h = ap (λ (b : Bool). cond b x y) h

-- ---- bytes

pub size-append : (xs ys : List ℕ) → size (xs ++ ys) ≡ size xs + size ys
size-append xs ys = ap length (encodes-append xs ys) ∙ length-append (encode_utf8_all xs) (encode_utf8_all ys)

pub size-cons : (c : ℕ) (cs : List ℕ) → size (c ∷ cs) ≡ len_utf8 c + size cs
size-cons c cs = length-append (encode_utf8 c) (encode_utf8_all cs) ∙ ap (λ n. n + size cs) (length-encode c)

pub one_byte : (c : ℕ) (cs : List ℕ) → 1 + size cs ≤ size (c ∷ cs)
one_byte c cs =
    let e = size-cons c cs in
    let f : 1 ≤ size (c ∷ []) = length-le-encodes (c ∷ []) in
    let g = size-cons c [] in
    omega (arith, e, f, g)

pub run_past : (p : ℕ → Bool) (cs : List ℕ) → run p cs ++ past p cs ≡ cs
run_past p [] = refl
run_past p (c ∷ cs) = pick (p c) refl (run_past p cs)
  where
    pick : (b : Bool) → p c ≡ b → run p cs ++ past p cs ≡ cs → run p (c ∷ cs) ++ past p (c ∷ cs) ≡ c ∷ cs
    pick true h e =
        ap (λ (b : Bool). cond b (c ∷ run p cs) [] ++ cond b (past p cs) (c ∷ cs)) h ∙ ap (λ (xs : List ℕ). c ∷ xs) e
    pick false h e = ap (λ (b : Bool). cond b (c ∷ run p cs) [] ++ cond b (past p cs) (c ∷ cs)) h

pub run_size : (p : ℕ → Bool) (cs : List ℕ) → size (run p cs) + size (past p cs) ≡ size cs
run_size p cs = sym (size-append (run p cs) (past p cs)) ∙ ap size (run_past p cs)

-- a text that ends with another is a front before it
pub front_bytes : (text rest front : List ℕ) → IsUtf8 text → IsUtf8 rest → chars text ≡ front ++ chars rest → text ≡ encode_utf8_all front ++ rest
front_bytes text rest front u v e =
    sym (encodes-chars text u) ∙ ap encode_utf8_all e ∙ encodes-append front (chars rest) ∙ ap (λ (x : List ℕ). encode_utf8_all front ++ x) (encodes-chars rest v)

-- ---- what a run of characters leaves

pub none_goes_on : (p : ℕ → Bool) {cs : List ℕ} → cs ≡ [] → goes_on p cs ≡ false
none_goes_on p e = ap (goes_on p) e

pub char_goes_on : (p : ℕ → Bool) {cs after : List ℕ} (c : ℕ) → cs ≡ c ∷ after → goes_on p cs ≡ p c
char_goes_on p c e = ap (goes_on p) e

pub run_on : (p : ℕ → Bool) {cs after : List ℕ} (c : ℕ) → cs ≡ c ∷ after → p c ≡ true → run p cs ≡ c ∷ run p after
run_on p {cs} {after} c e h = ap (run p) e ∙ at_true (p c) (c ∷ run p after) [] h

pub past_on : (p : ℕ → Bool) {cs after : List ℕ} (c : ℕ) → cs ≡ c ∷ after → p c ≡ true → past p cs ≡ past p after
past_on p {cs} {after} c e h = ap (past p) e ∙ at_true (p c) (past p after) (c ∷ after) h

pub past_stops : (p : ℕ → Bool) (cs : List ℕ) → goes_on p cs ≡ false → past p cs ≡ cs
past_stops p [] h = refl
past_stops p (c ∷ cs) h = at_false (p c) (past p cs) (c ∷ cs) h

-- ---- an identifier

pub name_parts : (p : ℕ → Bool) {cs text rest : List ℕ} (c : ℕ) → text ≡ c ∷ cs → rest ≡ past p cs → text ≡ (c ∷ run p cs) ++ rest
name_parts p {cs} {text} {rest} c e q =
    e ∙ ap (λ (x : List ℕ). c ∷ x) (sym (run_past p cs) ∙ ap (λ (x : List ℕ). run p cs ++ x) (sym q))

pub run_left : (p : ℕ → Bool) (cs rest : List ℕ) → goes_on p rest ≡ false → past p cs ≡ past p rest → rest ≡ past p cs
run_left p cs rest h e = sym (e ∙ past_stops p rest h)

-- ---- the rest of a line

pub record Lined (cs : List ℕ) (at : ℕ) (rest : List ℕ) (to : ℕ) : Type 0 where
  pub left : past stays_on_line cs ≡ past stays_on_line rest
  pub position : to + size (run stays_on_line rest) ≡ at + size (run stays_on_line cs)

pub lined_on : {cs rest after : List ℕ} {at to : ℕ} (c n : ℕ) → n ≡ len_utf8 c → rest ≡ c ∷ after → stays_on_line c ≡ true → Lined cs at rest to → Lined cs at after (to + n)
lined_on {cs} {rest} {after} {at} {to} c n e d q g =
    record {
      left = g.left ∙ past_on stays_on_line c d q;
      position = omega (arith, e, g.position, ap size (run_on stays_on_line c d q), size-cons c (run stays_on_line after));
    }

pub lined_place : {cs rest : List ℕ} {at to : ℕ} → Lined cs at rest to → to ≤ at + size cs
lined_place {cs} {rest} {at} {to} g = omega (arith, g.position, run_size stays_on_line cs)

-- ---- a number

pub record Counted (first : ℕ) (cs : List ℕ) (kept : Option ℕ) (count : ℕ) (rest : List ℕ) : Type 0 where
  pub so_far : ℕ
  pub left : past is_digit cs ≡ past is_digit rest
  pub counts : count + length (run is_digit rest) ≡ length (run is_digit cs)
  pub spells : number_after so_far (run is_digit rest) ≡ number (first ∷ run is_digit cs)
  pub value : IsValue so_far kept

pub counted_on : {first : ℕ} {cs rest after : List ℕ} {kept : Option ℕ} {count : ℕ} (c : ℕ) (next : Option ℕ) → rest ≡ c ∷ after → is_digit c ≡ true → ((n : ℕ) → IsValue n kept → IsValue (n * 10 + (c - 48)) next) → Counted first cs kept count rest → Counted first cs next (count + 1) after
counted_on {first} {cs} {rest} {after} {kept} {count} c next e q f g =
    let r = run_on is_digit c e q in
    record {
      so_far = g.so_far * 10 + (c - 48);
      left = g.left ∙ past_on is_digit c e q;
      counts = omega (arith, g.counts, ap length r);
      spells = sym (ap (number_after g.so_far) r) ∙ g.spells;
      value = f g.so_far g.value;
    }

pub counted_inside : {first : ℕ} {cs rest : List ℕ} {kept : Option ℕ} {count : ℕ} → Counted first cs kept count rest → count + length (run is_digit rest) ≤ size cs
counted_inside {cs = cs} g =
    let l : length (run is_digit cs) ≤ size (run is_digit cs) = length-le-encodes (run is_digit cs) in
    omega (arith, g.counts, run_size is_digit cs, l)

pub small_value : (n : ℕ) (o : Option ℕ) → IsValue n o → IfSome o (λ v. v < 2 ^ 63)
small_value n None h = tt
small_value n (Some v) h = h.1

pub no_value : (n : ℕ) (o : Option ℕ) → IsValue n o → o ≡ None → 2 ^ 63 ≤ n
no_value n None h e = h
no_value n (Some v) h e = cc

pub a_value : (n v : ℕ) (o : Option ℕ) → IsValue n o → o ≡ Some v → (n ≡ v) × (v < 2 ^ 63)
a_value n v None h e = cc
a_value n v (Some u) h e = let q : u ≡ v = cc in subst (λ u. (n ≡ u) × (u < 2 ^ 63)) q h
