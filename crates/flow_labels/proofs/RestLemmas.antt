-- What may follow where reading stands, said by lists of names: a byte is read exactly where it is the
-- first of something that may follow.
use Rattle.std.proofs.Common.{◌≡◌, ℕ, ◌+◌, ◌-◌, ◌<◌, ◌≤◌, true, false, cond, ◌&&◌, eqb, ltb, leb, ◌⊎◌, inl, inr, List, [], ◌∷◌, ◌++◌, length, Some, None, refl, sym, ap, subst, ◌∙◌, arith, append_assoc, suc}
use Rattle.std.specs.List.{list_all}
use Rattle.std.proofs.lemmas.Bool.Decides.{nat_tests}
use Rattle.std.proofs.lemmas.Bool.{and_parts, eqb-true, le-leb, lt-ltb}
use Rattle.std.proofs.lemmas.Option.{cond_some, same_Some}
use Rattle.flow_labels.specs.Names.{is_letter, is_word, is_name}
use Rattle.flow_labels.specs.TwoLists.{Text, AllNames, after_commas, joined, between}
use Rattle.flow_labels.specs.Reading.{step, after_letter}
use Rattle.flow_labels.specs.declared.two_lists.Form.{Form}
use Rattle.flow_labels.specs.declared.two_lists.Form.TheVariants.{Label, Caps}
use Rattle.flow_labels.specs.declared.two_lists.Side.{Side}
use Rattle.flow_labels.specs.declared.two_lists.Side.TheVariants.{First, Second}
use Rattle.flow_labels.specs.declared.two_lists.Spot.{Spot}
use Rattle.flow_labels.specs.declared.two_lists.Spot.TheVariants.{Start, Brace, Open, Name, Comma, Closed}

-- ---- what may follow; A is what may follow the brace that ends the list

-- after a whole name
pub record More (A : Text → Type 0) (t : Text) : Type 0 where
  pub names : List Text
  pub rest : Text
  pub all : AllNames names
  pub goes : A rest
  pub text_is : t ≡ after_commas names ++ 125 ∷ rest

-- in a name, that so many bytes may still be put to
pub record InName (A : Text → Type 0) (left : ℕ) (t : Text) : Type 0 where
  pub word : Text
  pub tail : Text
  pub wordy : list_all is_word word ≡ true
  pub short : length word ≤ left
  pub more : More A tail
  pub text_is : t ≡ word ++ tail

-- before a name
pub record Fresh (A : Text → Type 0) (t : Text) : Type 0 where
  pub name : Text
  pub tail : Text
  pub named : is_name name ≡ true
  pub more : More A tail
  pub text_is : t ≡ name ++ tail

-- after the brace that begins the list
pub record Opened (A : Text → Type 0) (t : Text) : Type 0 where
  pub names : List Text
  pub rest : Text
  pub all : AllNames names
  pub goes : A rest
  pub text_is : t ≡ joined names ++ 125 ∷ rest

-- before a mark
pub record Marked (m : ℕ) (B : Text → Type 0) (t : Text) : Type 0 where
  pub rest : Text
  pub goes : B rest
  pub text_is : t ≡ m ∷ rest

abbrev pub IsEnd : Text → Type 0
IsEnd t = t ≡ []

abbrev pub Ends : Form → Side → Text → Type 0
Ends form First = Marked (between form) (Marked 123 (Opened IsEnd))
Ends form Second = IsEnd

-- what may follow
abbrev pub Rest : Form → Spot → Text → Type 0
Rest form Start = Marked 43 (Marked 123 (Opened (Ends form First)))
Rest form (Brace side) = Marked 123 (Opened (Ends form side))
Rest form (Open side) = Opened (Ends form side)
Rest form (Name side len) = InName (Ends form side) (32 - len)
Rest form (Comma side) = Fresh (Ends form side)
Rest form (Closed side) = Ends form side

-- ---- heads of lists
tail_same : {b c : ℕ} {t u : Text} → b ∷ t ≡ c ∷ u → t ≡ u
tail_same e = cc

head_same : {b c : ℕ} {t u : Text} → b ∷ t ≡ c ∷ u → b ≡ c
head_same e = cc

-- ---- names
pub record NameParts (b : ℕ) (bs : Text) : Type 0 where
  pub letter : is_letter b ≡ true
  pub others : list_all is_word bs ≡ true
  pub short : length bs ≤ 31

pub name_parts : (b : ℕ) (bs : Text) → is_name (b ∷ bs) ≡ true → NameParts b bs
name_parts b bs e =
    let one : (leb (length (b ∷ bs)) 32 && (is_letter b && (is_word b && list_all is_word bs))) ≡ true = (and_parts (ltb 0 (length (b ∷ bs))) _ e).1 in
    let two : (leb (length (b ∷ bs)) 32 ≡ true) × ((is_letter b && (is_word b && list_all is_word bs)) ≡ true) = and_parts (leb (length (b ∷ bs)) 32) _ one in
    let three : (is_letter b ≡ true) × ((is_word b && list_all is_word bs) ≡ true) = and_parts (is_letter b) _ two.1 in
    record { letter = three.0; others = (and_parts (is_word b) _ three.1).1; short = within (length bs) two.0 }
  where
    within : (n : ℕ) → leb (suc n) 32 ≡ true → n ≤ 31
    within n e = grind (arith, nat_tests)

pub parts_name : (b : ℕ) (bs : Text) → is_letter b ≡ true → list_all is_word bs ≡ true → length bs ≤ 31 → is_name (b ∷ bs) ≡ true
parts_name b bs letter others short =
    let some : ltb 0 (length (b ∷ bs)) ≡ true = lt-ltb 0 (suc (length bs)) (omega arith) in
    let within : leb (length (b ∷ bs)) 32 ≡ true = le-leb (suc (length bs)) 32 (omega arith) in
    rw (some, within, letter, others) refl

letter_no_brace : (b : ℕ) → is_letter b ≡ true → eqb b 125 ≡ false
letter_no_brace b e = grind (arith, nat_tests)

word_no_brace : (b : ℕ) → is_word b ≡ true → eqb b 125 ≡ false
word_no_brace b e = grind (arith, nat_tests)

word_no_comma : (b : ℕ) → is_word b ≡ true → eqb b 44 ≡ false
word_no_comma b e = grind (arith, nat_tests)

-- ---- the rules, and back from the first byte
close : {A : Text → Type 0} {t : Text} → A t → More A (125 ∷ t)
close {A} {t} h = record { names = []; rest = t; all = tt; goes = h; text_is = refl }

comma : {A : Text → Type 0} {t : Text} → Fresh A t → More A (44 ∷ t)
comma {A} {t} h = record {
  names = h.name ∷ h.more.names;
  rest = h.more.rest;
  all = (h.named, h.more.all);
  goes = h.more.goes;
  text_is = ap (λ (u : Text). 44 ∷ u) (h.text_is ∙ ap (λ (u : Text). h.name ++ u) h.more.text_is ∙ sym (append_assoc h.name (after_commas h.more.names) (125 ∷ h.more.rest)));
}

more_back_at : {A : Text → Type 0} (b : ℕ) (t : Text) (names : List Text) (rest : Text) → AllNames names → A rest → b ∷ t ≡ after_commas names ++ 125 ∷ rest → ((b ≡ 125) × A t) ⊎ ((b ≡ 44) × Fresh A t)
more_back_at {A} b t [] rest all goes e = inl (head_same e, subst A (sym (tail_same e)) goes)
more_back_at {A} b t (n ∷ ns) rest all goes e = inr (
  head_same e,
  record {
    name = n;
    tail = after_commas ns ++ 125 ∷ rest;
    named = all.0;
    more = record { names = ns; rest = rest; all = all.1; goes = goes; text_is = refl };
    text_is = tail_same e ∙ append_assoc n (after_commas ns) (125 ∷ rest);
  },
)

more_back : {A : Text → Type 0} (b : ℕ) (t : Text) → More A (b ∷ t) → ((b ≡ 125) × A t) ⊎ ((b ≡ 44) × Fresh A t)
more_back b t h = more_back_at b t h.names h.rest h.all h.goes h.text_is

more_empty : {A : Text → Type 0} → More A [] → ⊥
more_empty h = at h.names h.rest h.text_is
  where
    at : (names : List Text) (rest : Text) → [] ≡ after_commas names ++ 125 ∷ rest → ⊥
    at [] rest e = cc
    at (n ∷ ns) rest e = cc

name_end : {A : Text → Type 0} {left : ℕ} {t : Text} → More A t → InName A left t
name_end {A} {left} {t} h = record { word = []; tail = t; wordy = refl; short = omega arith; more = h; text_is = refl }

name_letter : {A : Text → Type 0} (left less b : ℕ) (t : Text) → is_word b ≡ true → less + 1 ≡ left → InName A less t → InName A left (b ∷ t)
name_letter left less b t wordy fits h = record {
  word = b ∷ h.word;
  tail = h.tail;
  wordy = rw (wordy, h.wordy) refl;
  short = let s : length h.word ≤ less = h.short in omega arith;
  more = h.more;
  text_is = ap (λ (u : Text). b ∷ u) h.text_is;
}

name_back_at : {A : Text → Type 0} (left less b : ℕ) (t word tail : Text) → less ≡ left - 1 → list_all is_word word ≡ true → length word ≤ left → More A tail → b ∷ t ≡ word ++ tail → ((is_word b ≡ true) × (0 < left) × InName A less t) ⊎ More A (b ∷ t)
name_back_at {A} left less b t [] tail fits wordy short more e = inr (subst (More A) (sym e) more)
name_back_at {A} left less b t (w ∷ ws) tail fits wordy short more e =
    let both = and_parts (is_word w) (list_all is_word ws) wordy in
    let same : b ≡ w = head_same e in
    let first : is_word b ≡ true = rw same both.0 in
    inl (first, omega arith, record { word = ws; tail = tail; wordy = both.1; short = omega arith; more = more; text_is = tail_same e })

name_back : {A : Text → Type 0} (left less b : ℕ) (t : Text) → less ≡ left - 1 → InName A left (b ∷ t) → ((is_word b ≡ true) × (0 < left) × InName A less t) ⊎ More A (b ∷ t)
name_back left less b t fits h = name_back_at left less b t h.word h.tail fits h.wordy h.short h.more h.text_is

name_empty : {A : Text → Type 0} {left : ℕ} → InName A left [] → ⊥
name_empty {A} h = at h.word h.tail h.more h.text_is
  where
    at : (word tail : Text) → More A tail → [] ≡ word ++ tail → ⊥
    at [] tail more e = more_empty (subst (More A) (sym e) more)
    at (w ∷ ws) tail more e = cc

fresh_letter : {A : Text → Type 0} (b : ℕ) (t : Text) → is_letter b ≡ true → InName A 31 t → Fresh A (b ∷ t)
fresh_letter b t letter h = record {
  name = b ∷ h.word;
  tail = h.tail;
  named = parts_name b h.word letter h.wordy h.short;
  more = h.more;
  text_is = ap (λ (u : Text). b ∷ u) h.text_is;
}

fresh_back_at : {A : Text → Type 0} (b : ℕ) (t name tail : Text) → is_name name ≡ true → More A tail → b ∷ t ≡ name ++ tail → (is_letter b ≡ true) × InName A 31 t
fresh_back_at b t [] tail named more e = absurd cc
fresh_back_at b t (w ∷ ws) tail named more e =
    let parts : NameParts w ws = name_parts w ws named in
    (ap is_letter (head_same e) ∙ parts.letter, record { word = ws; tail = tail; wordy = parts.others; short = parts.short; more = more; text_is = tail_same e })

fresh_back : {A : Text → Type 0} (b : ℕ) (t : Text) → Fresh A (b ∷ t) → (is_letter b ≡ true) × InName A 31 t
fresh_back b t h = fresh_back_at b t h.name h.tail h.named h.more h.text_is

fresh_empty : {A : Text → Type 0} → Fresh A [] → ⊥
fresh_empty h = at h.name h.tail h.named h.text_is
  where
    at : (name tail : Text) → is_name name ≡ true → [] ≡ name ++ tail → ⊥
    at [] tail named e = cc
    at (w ∷ ws) tail named e = cc

opened_close : {A : Text → Type 0} {t : Text} → A t → Opened A (125 ∷ t)
opened_close {A} {t} h = record { names = []; rest = t; all = tt; goes = h; text_is = refl }

opened_fresh : {A : Text → Type 0} {t : Text} → Fresh A t → Opened A t
opened_fresh h = record {
  names = h.name ∷ h.more.names;
  rest = h.more.rest;
  all = (h.named, h.more.all);
  goes = h.more.goes;
  text_is = h.text_is ∙ ap (λ (u : Text). h.name ++ u) h.more.text_is ∙ sym (append_assoc h.name (after_commas h.more.names) (125 ∷ h.more.rest));
}

opened_back_at : {A : Text → Type 0} (b : ℕ) (t : Text) (names : List Text) (rest : Text) → AllNames names → A rest → b ∷ t ≡ joined names ++ 125 ∷ rest → ((b ≡ 125) × A t) ⊎ Fresh A (b ∷ t)
opened_back_at {A} b t [] rest all goes e = inl (head_same e, subst A (sym (tail_same e)) goes)
opened_back_at {A} b t (n ∷ ns) rest all goes e = inr (record {
  name = n;
  tail = after_commas ns ++ 125 ∷ rest;
  named = all.0;
  more = record { names = ns; rest = rest; all = all.1; goes = goes; text_is = refl };
  text_is = e ∙ append_assoc n (after_commas ns) (125 ∷ rest);
})

opened_back : {A : Text → Type 0} (b : ℕ) (t : Text) → Opened A (b ∷ t) → ((b ≡ 125) × A t) ⊎ Fresh A (b ∷ t)
opened_back b t h = opened_back_at b t h.names h.rest h.all h.goes h.text_is

opened_empty : {A : Text → Type 0} → Opened A [] → ⊥
opened_empty h = at h.names h.rest h.all h.text_is
  where
    at : (names : List Text) (rest : Text) → AllNames names → [] ≡ joined names ++ 125 ∷ rest → ⊥
    at [] rest all e = cc
    at ([] ∷ ns) rest all e = cc
    at ((w ∷ ws) ∷ ns) rest all e = cc

marked_back : {m : ℕ} {B : Text → Type 0} (b : ℕ) (t : Text) → Marked m B (b ∷ t) → (b ≡ m) × B t
marked_back {m} {B} b t h = let e : b ∷ t ≡ m ∷ h.rest = h.text_is in (head_same e, subst B (sym (tail_same e)) h.goes)

marked_empty : {m : ℕ} {B : Text → Type 0} → Marked m B [] → ⊥
marked_empty {m} h = let e : [] ≡ m ∷ h.rest = h.text_is in cc

-- ---- a byte goes on exactly so
abbrev pub Next : Form → Spot → ℕ → Text → Type 0
Next form spot b t = (next : Spot) × (step form spot b ≡ Some next) × Rest form next t

read_letter : (form : Form) (side : Side) (b : ℕ) (t : Text) → Fresh (Ends form side) (b ∷ t) → (is_letter b ≡ true) × Rest form (Name side 1) t
read_letter form side b t h = fresh_back b t h

pub read_on : (form : Form) (spot : Spot) (b : ℕ) (t : Text) → Rest form spot (b ∷ t) → Next form spot b t
read_on form Start b t h = let back = marked_back b t h in (Brace First, rw back.0 refl, back.1)
read_on form (Brace side) b t h = let back = marked_back b t h in (Open side, rw back.0 refl, back.1)
read_on form (Open side) b t h = elim (opened_back b t h) [
  | inl back ↦ (Closed side, rw back.0 refl, back.1)
  | inr fresh ↦ let back = read_letter form side b t fresh in (Name side 1, rw (letter_no_brace b back.0, back.0) refl, back.1)
]
read_on form (Comma side) b t h = let back = read_letter form side b t h in (Name side 1, rw back.0 refl, back.1)
read_on form (Name side len) b t h = elim (name_back (32 - len) (32 - (len + 1)) b t (omega arith) h) [
  | inl back ↦ let room : ltb len 32 ≡ true = room_of len back.1 in (Name side (len + 1), rw (word_no_brace b back.0, word_no_comma b back.0, back.0, room) refl, back.2)
  | inr more ↦ elim (more_back b t more) [
    | inl back ↦ (Closed side, rw back.0 refl, back.1)
    | inr back ↦ (Comma side, rw back.0 refl, back.1)
  ]
]
  where
    room_of : (n : ℕ) → 0 < 32 - n → ltb n 32 ≡ true
    room_of n h = let less : n < 32 = omega arith in grind (arith, nat_tests)
read_on form (Closed First) b t h = let back = marked_back b t h in (Brace Second, rw back.0 (mark_read form), back.1)
  where
    mark_read : (form : Form) → step form (Closed First) (between form) ≡ Some (Brace Second)
    mark_read Label = refl
    mark_read Caps = refl
read_on form (Closed Second) b t h = cc

-- nothing is left only at the end
pub end_read : (form : Form) (spot : Spot) → Rest form spot [] → spot ≡ Closed Second
end_read form (Open side) h = absurd (opened_empty h)
end_read form (Name side len) h = absurd (name_empty h)
end_read form (Comma side) h = absurd (fresh_empty h)
end_read form (Closed Second) h = refl
end_read form spot h = absurd (marked_empty h)

-- ---- and what may follow after a byte may follow before it
marked : {m : ℕ} {B : Text → Type 0} (b : ℕ) (t : Text) → b ≡ m → B t → Marked m B (b ∷ t)
marked b t same h = record { rest = t; goes = h; text_is = ap (λ (c : ℕ). c ∷ t) same }

letter_before : (form : Form) (side : Side) (next : Spot) (b : ℕ) (t : Text) → after_letter side b ≡ Some next → Rest form next t → Fresh (Ends form side) (b ∷ t)
letter_before form side next b t e h = let both = cond_some (is_letter b) (Name side 1) next e in fresh_letter b t both.0 (subst (λ (spot : Spot). Rest form spot t) (sym both.1) h)

pub read_back : (form : Form) (spot next : Spot) (b : ℕ) (t : Text) → step form spot b ≡ Some next → Rest form next t → Rest form spot (b ∷ t)
read_back form Start next b t e h = let both = cond_some (eqb b 43) (Brace First) next e in marked b t (eqb-true b 43 both.0) (subst (λ (spot : Spot). Rest form spot t) (sym both.1) h)
read_back form (Brace side) next b t e h = let both = cond_some (eqb b 123) (Open side) next e in marked b t (eqb-true b 123 both.0) (subst (λ (spot : Spot). Rest form spot t) (sym both.1) h)
read_back form (Open side) next b t e h = elim (eqb b 125) as (λ v. eqb b 125 ≡ v → cond v (Some (Closed side)) (after_letter side b) ≡ Some next → Opened (Ends form side) (b ∷ t)) [
  | true ↦ λ is same. subst (λ (c : ℕ). Opened (Ends form side) (c ∷ t)) (sym (eqb-true b 125 is)) (opened_close (subst (λ (spot : Spot). Rest form spot t) (sym (same_Some _ _ same)) h))
  | false ↦ λ is letter. opened_fresh (letter_before form side next b t letter h)
] refl e
read_back form (Comma side) next b t e h = letter_before form side next b t e h
read_back form (Name side len) next b t e h = elim (eqb b 125) as (λ v. eqb b 125 ≡ v → cond v (Some (Closed side)) (cond (eqb b 44) (Some (Comma side)) (cond (is_word b && ltb len 32) (Some (Name side (len + 1))) None)) ≡ Some next → InName (Ends form side) (32 - len) (b ∷ t)) [
  | true ↦ λ is same. subst (λ (c : ℕ). InName (Ends form side) (32 - len) (c ∷ t)) (sym (eqb-true b 125 is)) (name_end (close (subst (λ (spot : Spot). Rest form spot t) (sym (same_Some _ _ same)) h)))
  | false ↦ λ is later. elim (eqb b 44) as (λ v. eqb b 44 ≡ v → cond v (Some (Comma side)) (cond (is_word b && ltb len 32) (Some (Name side (len + 1))) None) ≡ Some next → InName (Ends form side) (32 - len) (b ∷ t)) [
    | true ↦ λ was same. subst (λ (c : ℕ). InName (Ends form side) (32 - len) (c ∷ t)) (sym (eqb-true b 44 was)) (name_end (comma (subst (λ (spot : Spot). Rest form spot t) (sym (same_Some _ _ same)) h)))
    | false ↦ λ was word. let both = cond_some (is_word b && ltb len 32) (Name side (len + 1)) next word in let parts = and_parts (is_word b) (ltb len 32) both.0 in
        name_letter (32 - len) (32 - (len + 1)) b t parts.0 (fits len parts.1) (subst (λ (spot : Spot). Rest form spot t) (sym both.1) h)
  ] refl later
] refl e
  where
    fits : (n : ℕ) → ltb n 32 ≡ true → 32 - (n + 1) + 1 ≡ 32 - n
    fits n e = let less : n < 32 = grind (arith, nat_tests) in omega arith
read_back form (Closed First) next b t e h = let both = cond_some (eqb b (between form)) (Brace Second) next e in marked b t (eqb-true b (between form) both.0) (subst (λ (spot : Spot). Rest form spot t) (sym both.1) h)
read_back form (Closed Second) next b t e h = absurd cc

-- ---- something may always follow
ending : (form : Form) (side : Side) → (t : Text) × Ends form side t
ending form Second = ([], refl)
ending form First = (between form ∷ 123 ∷ 125 ∷ [], marked (between form) _ refl (marked 123 _ refl (opened_close refl)))

pub alive : (form : Form) (spot : Spot) → (t : Text) × Rest form spot t
alive form Start = let end = ending form First in (43 ∷ 123 ∷ 125 ∷ end.0, marked 43 _ refl (marked 123 _ refl (opened_close end.1)))
alive form (Brace side) = let end = ending form side in (123 ∷ 125 ∷ end.0, marked 123 _ refl (opened_close end.1))
alive form (Open side) = let end = ending form side in (125 ∷ end.0, opened_close end.1)
alive form (Name side len) = let end = ending form side in (125 ∷ end.0, name_end (close end.1))
alive form (Comma side) = let end = ending form side in (97 ∷ 125 ∷ end.0, fresh_letter 97 _ refl (name_end (close end.1)))
alive form (Closed side) = ending form side
