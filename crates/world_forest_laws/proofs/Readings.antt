-- What holds of what is read, where it holds of each part.
use Rattle.std.proofs.Common.{◌≡◌, Bool, true, false, Option, Some, None, Ok, Err, refl}
use Rattle.std.specs.Prelude.{IfOk, IfSome, option_and_then}
use Rattle.serde_json.specs.Data.{Data, Members}
use Rattle.serde_json.specs.Find.{get_member}
use Rattle.flow_labels.specs.TwoLists.{Text}
use Rattle.world_doc_terms.specs.Breaks.{Reading, ◌>>=◌, only_if, formed, present, member_as}

module _ {A B : Type 0} where
  -- after what is not known anything of
  pub after : (r : Reading A) (f : A → Reading B) (P : B → Type 0) → ((x : A) → IfOk (f x) P) → IfOk (r >>= f) P
  after (Ok x) f P h = h x
  after (Err e) f P h = tt

  -- after what is known something of
  pub onward : (r : Reading A) (Q : A → Type 0) → IfOk r Q → (f : A → Reading B) (P : B → Type 0) → ((x : A) → Q x → IfOk (f x) P) → IfOk (r >>= f) P
  onward (Ok x) Q q f P h = h x q
  onward (Err e) Q q f P h = tt

module _ {A : Type 0} (P : A → Type 0) where
  pub formed_good : (name : Text) (o : Option A) → IfSome o P → IfOk (formed name o) P
  formed_good name None h = tt
  formed_good name (Some x) h = h

  pub member_good : (name : Text) (form : Data → Option A) (ms : Members) → ((d : Data) → IfSome (form d) P) → IfOk (member_as name form ms) P
  member_good name form ms h = by (get_member name ms)
    where
      by : (o : Option Data) → IfOk (present name o >>= λ d. formed name (form d)) P
      by None = tt
      by (Some d) = formed_good name (form d) (h d)

  pub tested : (test : Bool) (x : A) → (test ≡ true → P x) → IfSome (only_if test x) P
  tested true x h = h refl
  tested false x h = tt

  pub option_good : {C : Type 0} (f : C → Option A) (o : Option C) → ((x : C) → IfSome (f x) P) → IfSome (option_and_then f o) P
  option_good f None h = tt
  option_good f (Some x) h = h x
