-- One reading after another: what a result says of the whole.
use Rattle.std.proofs.Common.{◌≡◌, List, [], ◌∷◌, ◌++◌, Option, Some, None, Result, Ok, Err, refl, sym, ap, subst, ◌∙◌, append_assoc}
use Rattle.std.specs.Option.{MatchOption}
use Rattle.world_doc_terms.specs.Breaks.{Break, Reading, ◌>>=◌}
use Rattle.world_doc_stores.specs.declared.fault.WorldFault.{WorldFault}
use Rattle.world_doc_stores.specs.declared.fault.WorldFault.TheVariants.{NoMemory}
use Rattle.world_doc_stores.specs.Meaning.{break_of, Says, Fails, Gives}

-- what was read, and what is read of it
pub on_ok : {A B : Type 0} (r : Reading A) (v : A) (f : A → Reading B) (z : Reading B) → r ≡ Ok v → f v ≡ z → (r >>= f) ≡ z
on_ok r v f z e h = ap (λ r. r >>= f) e ∙ h

breaks_here : {A B : Type 0} (o : Option Break) (r : Reading A) (f : A → Reading B) → MatchOption o (Unit {0}) (λ b. r ≡ Err b) → MatchOption o (Unit {0}) (λ b. (r >>= f) ≡ Err b)
breaks_here None r f h = tt
breaks_here (Some b) r f h = ap (λ r. r >>= f) h

-- where a reading fails, what goes on from it fails so
pub fails_here : {A B : Type 0} (e : WorldFault) (r : Reading A) (f : A → Reading B) → Fails e r → Fails e (r >>= f)
fails_here e r f h = record { breaks = breaks_here (break_of e) r f h.breaks }

breaks_so : {X : Type 0} (o : Option Break) (b : Break) (read : Reading X) → MatchOption o (Unit {0}) (λ c. c ≡ b) → read ≡ Err b → MatchOption o (Unit {0}) (λ c. read ≡ Err c)
breaks_so None b read h e = tt
breaks_so (Some c) b read h e = e ∙ ap Err (sym h)

-- a fault that says the break that is read
pub says_fails : {X : Type 0} {e : WorldFault} {b : Break} {read : Reading X} → Says e b → read ≡ Err b → Fails e read
says_fails {X} {e} {b} {read} h is = record { breaks = breaks_so (break_of e) b read h.said is }

pub lost : {X : Type 0} {e : WorldFault} {read : Reading X} → e ≡ NoMemory → Fails e read
lost {X} {e} {read} is = subst (λ f. Fails f read) (sym is) (record { breaks = tt })

pub fails_same : {X : Type 0} {e : WorldFault} {r s : Reading X} → r ≡ s → Fails e r → Fails e s
fails_same {X} {e} is h = subst (Fails e) is h

pub gives_same : {X Y : Type 0} (view : X → Y) (r : Result X WorldFault) (s t : Reading Y) → s ≡ t → Gives view r s → Gives view r t
gives_same view r s t e h = subst (λ u. Gives view r u) e h

-- ---- readings of a list, one item after another

abbrev pub onto : {A : Type 0} → List A → Reading (List A) → Reading (List A)
onto done later = later >>= λ xs. Ok (done ++ xs)

pub onto_nil : {A : Type 0} (r : Reading (List A)) → r ≡ onto [] r
onto_nil (Ok xs) = refl
onto_nil (Err b) = refl

-- one item, and those after it
abbrev pub then_later : {A : Type 0} → Reading A → Reading (List A) → Reading (List A)
then_later r later = r >>= λ x. later >>= λ xs. Ok (x ∷ xs)

later_more : {A : Type 0} (done : List A) (x : A) (later : Reading (List A)) → onto done (later >>= λ xs. Ok (x ∷ xs)) ≡ onto (done ++ x ∷ []) later
later_more done x (Ok xs) = ap Ok (sym (append_assoc done (x ∷ []) xs))
later_more done x (Err b) = refl

pub onto_more : {A : Type 0} (done : List A) (r : Reading A) (x : A) (later : Reading (List A)) → r ≡ Ok x → onto done (then_later r later) ≡ onto (done ++ x ∷ []) later
onto_more done r x later is = ap (λ r. onto done (then_later r later)) is ∙ later_more done x later

pub onto_fails : {A : Type 0} (e : WorldFault) (done : List A) (r : Reading A) (later : Reading (List A)) → Fails e r → Fails e (onto done (then_later r later))
onto_fails e done r later h = fails_here e (then_later r later) (λ xs. Ok (done ++ xs)) (fails_here e r (λ x. later >>= λ xs. Ok (x ∷ xs)) h)

-- ---- three readings

pub bind_assoc : {A B C : Type 0} (r : Reading A) (f : A → Reading B) (g : B → Reading C) → ((r >>= f) >>= g) ≡ (r >>= λ x. f x >>= g)
bind_assoc (Ok x) f g = refl
bind_assoc (Err b) f g = refl
