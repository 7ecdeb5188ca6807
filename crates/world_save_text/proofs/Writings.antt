-- One text after another.
use Rattle.std.proofs.Common.{◌≡◌, ◌<◌, ◌≤◌, ◌/◌, ◌%◌, ℕ, true, false, cond, List, [], ◌∷◌, ◌++◌, Option, Some, None, refl, sym, ap, ◌∙◌, subst, arith, append_assoc, append-nil, length-append}
use Rattle.std.specs.Prelude.{nat_lt, Result, Ok, Err, OnOk}
use Rattle.std.specs.Char.{digit_char}
use Rattle.std.proofs.lemmas.Bool.Decides.{nat_tests}
use Rattle.json.specs.Print.{escape_byte, escape_letter}
use Rattle.world_save_items.specs.Measures.{greatest}
use Rattle.world_save_text.specs.declared.writer.JsonWriter.{JsonWriter}
use Rattle.world_save_text.specs.Writing.{kept, lengthened, Wrote}

more_after : (o : Option (List ℕ)) (s r : List ℕ) → lengthened (lengthened o s) r ≡ lengthened o (s ++ r)
more_after None s r = refl
more_after (Some text) s r = ap Some (append_assoc text s r)

none_after : (o : Option (List ℕ)) → o ≡ lengthened o []
none_after None = refl
none_after (Some text) = ap Some (sym (append-nil text))

pub then : {a b c : JsonWriter} {s r : List ℕ} → Wrote a b s → Wrote b c r → Wrote a c (s ++ r)
then {a} {b} {c} {s} {r} w v =
    record {
      count = (let e = length-append s r in let x = w.count in let y = v.count in omega arith);
      text = v.text ∙ ap (λ o. lengthened o r) w.text ∙ more_after (kept a) s r;
    }

pub nothing : (a : JsonWriter) → a.count ≤ greatest → Wrote a a []
nothing a le = record { count = omega arith; text = none_after (kept a) }

pub rewritten : {X E : Type 0} (res : Result X E) (a b : JsonWriter) (s r : List ℕ) → s ≡ r → OnOk res (Wrote a b s) → OnOk res (Wrote a b r)
rewritten res a b s r e = subst (λ t. OnOk res (Wrote a b t)) e

-- what follows from a success
pub mapped : {X E P Q : Type 0} (res : Result X E) → OnOk res P → (P → Q) → OnOk res Q
mapped (Ok x) p f = f p
mapped (Err e) p f = tt

-- ---- a text, piece by piece

-- of the whole text all was written but what is left
pub record HasWritten (old new : JsonWriter) (all left : List ℕ) : Type 0 where
  pub done : List ℕ
  pub split : done ++ left ≡ all
  pub wrote : Wrote old new done

pub one_written : {old now new : JsonWriter} {all left piece : List ℕ} (rest : List ℕ) → HasWritten old now all left → Wrote now new piece → left ≡ piece ++ rest → HasWritten old new all rest
one_written {piece = piece} rest h w e =
    record {
      done = h.done ++ piece;
      split = append_assoc h.done piece rest ∙ ap (λ bs. h.done ++ bs) (sym e) ∙ h.split;
      wrote = then h.wrote w;
    }

pub all_written : {old new : JsonWriter} {all left : List ℕ} → HasWritten old new all left → left ≡ [] → Wrote old new all
all_written {old} {new} h e = subst (Wrote old new) (sym (append-nil h.done) ∙ ap (λ bs. h.done ++ bs) (sym e) ∙ h.split) h.wrote

-- ---- a byte between quotes

is_true : (a b : ℕ) → a < b → nat_lt a b ≡ true
is_true a b h = grind (arith, nat_tests)

is_false : (a b : ℕ) → b ≤ a → nat_lt a b ≡ false
is_false a b h = grind (arith, nat_tests)

pub short : (x : ℕ) → 0 < escape_letter x → 92 ∷ escape_letter x ∷ [] ≡ escape_byte x
unfolding escape_byte
short x h = sym (ap (λ b. cond b (92 ∷ escape_letter x ∷ []) (cond (nat_lt x 32) (92 ∷ 117 ∷ 48 ∷ 48 ∷ digit_char (x / 16) ∷ digit_char (x % 16) ∷ []) (x ∷ []))) (is_true 0 (escape_letter x) h))

pub long : (x : ℕ) → escape_letter x ≤ 0 → x < 32 → 92 ∷ 117 ∷ 48 ∷ 48 ∷ digit_char (x / 16) ∷ digit_char (x % 16) ∷ [] ≡ escape_byte x
unfolding escape_byte
long x h k =
    sym (ap (λ b. cond b (92 ∷ escape_letter x ∷ []) (cond (nat_lt x 32) (92 ∷ 117 ∷ 48 ∷ 48 ∷ digit_char (x / 16) ∷ digit_char (x % 16) ∷ []) (x ∷ []))) (is_false 0 (escape_letter x) h)
    ∙ ap (λ b. cond b (92 ∷ 117 ∷ 48 ∷ 48 ∷ digit_char (x / 16) ∷ digit_char (x % 16) ∷ []) (x ∷ [])) (is_true x 32 k))

pub plain : (x : ℕ) → escape_letter x ≤ 0 → 32 ≤ x → x ∷ [] ≡ escape_byte x
unfolding escape_byte
plain x h k =
    sym (ap (λ b. cond b (92 ∷ escape_letter x ∷ []) (cond (nat_lt x 32) (92 ∷ 117 ∷ 48 ∷ 48 ∷ digit_char (x / 16) ∷ digit_char (x % 16) ∷ []) (x ∷ []))) (is_false 0 (escape_letter x) h)
    ∙ ap (λ b. cond b (92 ∷ 117 ∷ 48 ∷ 48 ∷ digit_char (x / 16) ∷ digit_char (x % 16) ∷ []) (x ∷ [])) (is_false x 32 k))
