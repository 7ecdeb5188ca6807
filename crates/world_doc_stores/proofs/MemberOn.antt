-- A member of a form, on which more is asked.
use Rattle.std.proofs.Common.{◌≡◌, Option, Some, None, Ok, Err, ap}
use Rattle.std.specs.Option.{MatchOption, option_and_then}
use Rattle.serde_json.specs.Data.{Data, Members}
use Rattle.serde_json.specs.Find.{get_member}
use Rattle.flow_labels.specs.TwoLists.{Text}
use Rattle.world_doc_terms.specs.Breaks.{Break, NoMember, BadMember, Reading, ◌>>=◌, present, formed, member_as}
use Rattle.world_doc_stores.specs.declared.fault.WorldFault.{WorldFault}
use Rattle.world_doc_stores.specs.Meaning.{break_of, Fails}

not_ok : {X Y : Type 0} (o : Option Break) (x : X) (read : Reading Y) → MatchOption o (Unit {0}) (λ b. ◌≡◌ {A = Reading X} (Ok x) (Err b)) → MatchOption o (Unit {0}) (λ b. read ≡ Err b)
not_ok None x read h = tt
not_ok (Some b) x read h = absurd cc

inside : {X : Type 0} {x y : X} → ◌≡◌ {A = Reading X} (Ok x) (Ok y) → x ≡ y
inside e = cc

no_value : {X P : Type 0} {b : Break} {x : X} → ◌≡◌ {A = Reading X} (Err b) (Ok x) → P
no_value e = absurd cc

err_moved : (X Y : Type 0) (o : Option Break) (b : Break) → MatchOption o (Unit {0}) (λ c. ◌≡◌ {A = Reading X} (Err b) (Err c)) → MatchOption o (Unit {0}) (λ c. ◌≡◌ {A = Reading Y} (Err b) (Err c))
err_moved X Y None b h = tt
err_moved X Y (Some c) b h = ap Err (broken h)
  where
    broken : {b c : Break} → ◌≡◌ {A = Reading X} (Err b) (Err c) → b ≡ c
    broken e = cc

-- the same break, where a value of another type was to be read
moved : {X Y : Type 0} (e : WorldFault) (b : Break) → Fails {X = X} e (Err b) → Fails {X = Y} e (Err b)
moved {X} {Y} e b h = record { breaks = err_moved X Y (break_of e) b h.breaks }

module _ {A B : Type 0} (name : Text) (form : Data → Option A) (f : A → Option B) where
  formed_on : (o : Option A) (x : A) → formed name o ≡ Ok x → formed name (option_and_then f o) ≡ formed name (f x)
  formed_on None x e = no_value e
  formed_on (Some y) x e = ap (λ (z : A). formed name (f z)) (inside e)

  present_on : (o : Option Data) (x : A) → (present name o >>= λ d. formed name (form d)) ≡ Ok x → (present name o >>= λ d. formed name (option_and_then f (form d))) ≡ formed name (f x)
  present_on None x e = no_value e
  present_on (Some d) x e = formed_on (form d) x e

  pub member_on : (ms : Members) (x : A) → member_as name form ms ≡ Ok x → member_as name (λ d. option_and_then f (form d)) ms ≡ formed name (f x)
  member_on ms x e = present_on (get_member name ms) x e

  formed_off : (e : WorldFault) (o : Option A) → Fails e (formed name o) → Fails e (formed name (option_and_then f o))
  formed_off e None h = moved e (BadMember name) h
  formed_off e (Some y) h = record { breaks = not_ok (break_of e) y (formed name (f y)) h.breaks }

  present_off : (e : WorldFault) (o : Option Data) → Fails e (present name o >>= λ d. formed name (form d)) → Fails e (present name o >>= λ d. formed name (option_and_then f (form d)))
  present_off e None h = moved e (NoMember name) h
  present_off e (Some d) h = formed_off e (form d) h

  pub member_off : (e : WorldFault) (ms : Members) → Fails e (member_as name form ms) → Fails e (member_as name (λ d. option_and_then f (form d)) ms)
  member_off e ms h = present_off e (get_member name ms) h
