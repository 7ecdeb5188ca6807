-- What a sink took of the parts of a text.
use Rattle.std.proofs.Common.{◌≡◌, ℕ, ◌+◌, ◌<◌, zero, suc, List, [], ◌∷◌, ◌++◌, length, take, drop, get_or, Option, ap, sym, subst, refl, ◌∙◌, append_assoc, append-nil, arith, length-append, codes}
use Rattle.std.specs.Borrow.{Bor}
use Rattle.std.proofs.Math.Seq.{take-append-add}
use Rattle.std.proofs.lemmas.List.{take-append-le}
use Rattle.lam_io.specs.Outside.{Took, TookFront}
use Rattle.lam_io.proofs.TookLemmas.{took_more}
use Rattle.lam_main_words.specs.Words.{Text}
use Rattle.lam_main_plan.specs.declared.Status.{Status}
use Rattle.lam_main_plan.specs.Codes.{code_of}
use Rattle.lam_main_plan.specs.Refusals.{line, refused}
use Rattle.lam_main_print.specs.Lines.{texts, joined}

-- all of a part was taken, and then a front of the next
front_after : (start old new : Option (List ℕ)) (a b : List ℕ) → Took start old a → TookFront old new b → TookFront start new (a ++ b)
front_after start old new a b h k =
    (length a + k.0, omega (arith, k.1, length-append a b), rw (take-append-add a b k.0) (took_more start old new a (take k.0 b) h k.2))

-- a front of a part is one of the text
front_before : (old new : Option (List ℕ)) (a b : List ℕ) → TookFront old new a → TookFront old new (a ++ b)
front_before old new a b h =
    (h.0, omega (arith, h.1, length-append a b), rw (take-append-le h.0 a b (omega (arith, h.1))) h.2)

-- ---- parts one after another

joined_take : (parts : List (Bor Text)) (i : ℕ) (d : Bor Text) → i < length parts → joined (texts (take (suc i) parts)) ≡ joined (texts (take i parts)) ++ (get_or parts i d).now
joined_take [] i d less = absurd (omega arith)
joined_take (p ∷ ps) zero d less = append-nil p.now
joined_take (p ∷ ps) (suc i) d less = ap (λ (r : Text). p.now ++ r) (joined_take ps i d (omega arith)) ∙ sym (append_assoc p.now (joined (texts (take i ps))) (get_or ps i d).now)

one_part : (parts : List (Bor Text)) (i : ℕ) (d : Bor Text) → i < length parts → joined (texts (take (i + 1) parts)) ≡ joined (texts (take i parts)) ++ (get_or parts i d).now
one_part parts i d less =
    let next : i + 1 ≡ suc i = omega arith in
    ap (λ (n : ℕ). joined (texts (take n parts))) next ∙ joined_take parts i d less

-- some first parts were taken, and then the next
pub one_more : (start old new : Option Text) (parts : List (Bor Text)) (i : ℕ) (d : Bor Text) → i < length parts → Took start old (joined (texts (take i parts))) → Took old new (get_or parts i d).now → Took start new (joined (texts (take (i + 1) parts)))
one_more start old new parts i d less before now =
    subst (λ (t : Text). Took start new t) (sym (one_part parts i d less)) (took_more start old new (joined (texts (take i parts))) (get_or parts i d).now before now)

split : (parts : List (Bor Text)) (i : ℕ) → joined (texts parts) ≡ joined (texts (take i parts)) ++ joined (texts (drop i parts))
split parts zero = refl
split [] (suc i) = refl
split (p ∷ ps) (suc i) = ap (λ (r : Text). p.now ++ r) (split ps i) ∙ sym (append_assoc p.now (joined (texts (take i ps))) (joined (texts (drop i ps))))

-- some first parts were taken, and then a front of the next
pub front_of_part : (start old new : Option Text) (parts : List (Bor Text)) (i : ℕ) (d : Bor Text) → i < length parts → Took start old (joined (texts (take i parts))) → TookFront old new (get_or parts i d).now → TookFront start new (joined (texts parts))
front_of_part start old new parts i d less before now =
    subst (λ (t : Text). TookFront start new t) (sym (split parts (i + 1)))
    (front_before start new (joined (texts (take (i + 1) parts))) (joined (texts (drop (i + 1) parts)))
    (subst (λ (t : Text). TookFront start new t) (sym (one_part parts i d less)) (front_after start old new (joined (texts (take i parts))) (get_or parts i d).now before now)))

-- ---- the line of a refusal

line_joined : (parts : List Text) → line parts ≡ joined parts ++ 10 ∷ []
line_joined [] = refl
line_joined (p ∷ ps) = ap (λ (r : Text). p ++ r) (line_joined ps) ∙ sym (append_assoc p (joined ps) (10 ∷ []))

-- the three texts of a line: its head, its parts, and the line feed
whole_line : (status : Status) (parts : List Text) (mark number : Text) → mark ≡ codes "lam: " → number ≡ (48 + code_of status) ∷ 32 ∷ [] → (mark ++ (number ++ [])) ++ (joined parts ++ 10 ∷ []) ≡ (refused status parts).text
whole_line status parts mark number one two =
    (λ i. (one i ++ (two i ++ [])) ++ (joined parts ++ 10 ∷ []))
    ∙ ap (λ (r : Text). codes "lam: " ++ (((48 + code_of status) ∷ 32 ∷ []) ++ r)) (sym (line_joined parts))

module _ (status : Status) (parts : List Text) (mark number : Text) (one : mark ≡ codes "lam: ") (two : number ≡ (48 + code_of status) ∷ 32 ∷ []) (start first second new : Option Text) where
  pub took_line : Took start first (mark ++ (number ++ [])) → Took first second (joined parts) → Took second new (10 ∷ []) → Took start new (refused status parts).text
  took_line h k l = subst (λ (t : Text). Took start new t) (whole_line status parts mark number one two) (took_more start first new (mark ++ (number ++ [])) (joined parts ++ 10 ∷ []) h (took_more first second new (joined parts) (10 ∷ []) k l))

  pub front_of_feed : Took start first (mark ++ (number ++ [])) → Took first second (joined parts) → TookFront second new (10 ∷ []) → TookFront start new (refused status parts).text
  front_of_feed h k l = subst (λ (t : Text). TookFront start new t) (whole_line status parts mark number one two) (front_after start first new (mark ++ (number ++ [])) (joined parts ++ 10 ∷ []) h (front_after first second new (joined parts) (10 ∷ []) k l))

module _ (status : Status) (parts : List Text) (mark number : Text) (one : mark ≡ codes "lam: ") (two : number ≡ (48 + code_of status) ∷ 32 ∷ []) (start first new : Option Text) where
  pub front_of_parts : Took start first (mark ++ (number ++ [])) → TookFront first new (joined parts) → TookFront start new (refused status parts).text
  front_of_parts h k = subst (λ (t : Text). TookFront start new t) (whole_line status parts mark number one two) (front_after start first new (mark ++ (number ++ [])) (joined parts ++ 10 ∷ []) h (front_before first new (joined parts) (10 ∷ []) k))

  pub front_of_head : TookFront start new (mark ++ (number ++ [])) → TookFront start new (refused status parts).text
  front_of_head h = subst (λ (t : Text). TookFront start new t) (whole_line status parts mark number one two) (front_before start new (mark ++ (number ++ [])) (joined parts ++ 10 ∷ []) h)
