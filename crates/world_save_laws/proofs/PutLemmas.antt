-- What is put under a name that does not live, and where it then stands.
use Rattle.std.proofs.Common.{◌≡◌, ◌≤◌, ℕ, Bool, true, false, cond, List, [], ◌∷◌, ◌++◌, length, Option, Some, None, is_some, refl, sym, ap, subst, ◌∙◌, ⊎_elim}
use Rattle.std.specs.Option.{unwrap_or}
use Rattle.std.specs.FinMap.{FinMap, get, insert, get-insert}
use Rattle.std.specs.Ordering.{eq_by_cmp}
use Rattle.std.specs.Cmp.{Equal-is, eq_by_cmp_equiv}
use Rattle.std.proofs.lemmas.List.{take_all}
use Rattle.std.proofs.lemmas.Bool.{false_from_ne_true, cases_Bool}
use Rattle.lam_value.specs.declared.names.Name.{Name}
use Rattle.lam_value.specs.Names.{name_cmp}
use Rattle.lam_value.proofs.Keys.{name_total, name_exact}
use Rattle.labelled_files.specs.declared.directory.EntryKind.{EntryKind}
use Rattle.labelled_files.specs.declared.directory.EntryKind.TheVariants.{File, Dir}
use Rattle.labelled_files.specs.Entries.{Entries}
use Rattle.labelled_files.specs.Trees.{Tree, lives_as, entries_at, changed, changed_at, joined, placed, appended, with_more}

-- ---- names

abbrev eq : Name → Name → Bool
eq = eq_by_cmp name_cmp

same : (a b : Name) → eq a b ≡ true → a ≡ b
same a b e = name_exact a b ((Equal-is (name_cmp a b)).0 e)

itself : (a : Name) → eq a a ≡ true
itself a = (eq_by_cmp_equiv name_total).refl a

unlike : (a b : Name) → eq a b ≡ false → a ≡ b → ⊥
unlike a b e is = let tied : eq a b ≡ true = subst (λ c. eq a c ≡ true) is (itself a) in let both : true ≡ false = sym tied ∙ e in cc

apart : (a b : Name) → (a ≡ b → ⊥) → eq a b ≡ false
apart a b never = false_from_ne_true (eq a b) (λ e. never (same a b e))

-- by whether two names are the same
pub by_same : {P : Type 0} (a b : Name) → (a ≡ b → P) → ((a ≡ b → ⊥) → P) → P
by_same a b f g = ⊎_elim (λ e. f (same a b e)) (λ e. g (unlike a b e)) (cases_Bool (eq a b))

-- ---- what is there

pub there : {X : Type 0} (o : Option X) (d : X) → is_some o ≡ true → o ≡ Some (unwrap_or o d)
there None d e = absurd cc
there (Some x) d e = refl

pub nothing : {X : Type 0} (o : Option X) → is_some o ≡ false → o ≡ None
nothing None e = refl
nothing (Some x) e = absurd cc

module _ {X : Type 0} (m : FinMap name_cmp X) (n : Name) (x : X) where
  pub put_there : get (insert m n x) n ≡ Some x
  put_there = get-insert name_total m n x n ∙ ap (λ b. cond b (Some x) (get m n)) (itself n)

  pub put_apart : (q : Name) → (q ≡ n → ⊥) → get (insert m n x) q ≡ get m q
  put_apart q never = get-insert name_total m n x q ∙ ap (λ b. cond b (Some x) (get m q)) (apart q n never)

-- ---- what is put

-- what lives under the name afterwards
abbrev pub IsMade : Tree → Name → List ℕ → EntryKind → Type 0
IsMade v n bytes File = (get v.files n ≡ Some bytes) × (get v.dirs n ≡ None)
IsMade v n bytes Dir = (get v.dirs n ≡ Some []) × (get v.files n ≡ None)

pub record IsPut (u v : Tree) (dir n : Name) (text : List ℕ) (kind : EntryKind) (bytes : List ℕ) : Type 0 where
  pub root : v.root ≡ u.root
  pub counts : v.counts ≡ u.counts
  pub here : get v.dirs dir ≡ Some (entries_at u dir ++ (text, record { kind = kind; name = n }) ∷ [])
  pub dirs : (d : Name) → (d ≡ dir → ⊥) → (d ≡ n → ⊥) → get v.dirs d ≡ get u.dirs d
  pub files : (f : Name) → (f ≡ n → ⊥) → get v.files f ≡ get u.files f
  pub made : IsMade v n bytes kind

module _ (u : Tree) (dir n : Name) (text : List ℕ) (live : lives_as Dir u dir ≡ true) (no_file : lives_as File u n ≡ false) (no_dir : lives_as Dir u n ≡ false) where
  pub differ : dir ≡ n → ⊥
  differ is = let both : true ≡ false = sym live ∙ ap (lives_as Dir u) is ∙ no_dir in cc

  -- the entries of the directory are changed
  changed_here : (f : Entries → Entries) → changed_at u.dirs dir f ≡ insert u.dirs dir (f (entries_at u dir))
  changed_here f = ap (λ (o : Option Entries). changed o u.dirs dir f) (there (get u.dirs dir) [] live)

  module _ (kind : EntryKind) where
    abbrev more : FinMap name_cmp Entries
    more = changed_at u.dirs dir (joined text kind n)

    more_here : get more dir ≡ Some (entries_at u dir ++ (text, record { kind = kind; name = n }) ∷ [])
    more_here = ap (λ m. get m dir) (changed_here (joined text kind n)) ∙ put_there u.dirs dir (joined text kind n (entries_at u dir))

    more_apart : (d : Name) → (d ≡ dir → ⊥) → get more d ≡ get u.dirs d
    more_apart d never = ap (λ m. get m d) (changed_here (joined text kind n)) ∙ put_apart u.dirs dir (joined text kind n (entries_at u dir)) d never

  none_there : get u.dirs n ≡ None
  none_there = nothing (get u.dirs n) no_dir

  backwards : n ≡ dir → ⊥
  backwards is = differ (sym is)

  pub put_dir : (bytes : List ℕ) → IsPut u (placed u dir text Dir n) dir n text Dir bytes
  put_dir bytes =
      record {
        root = refl;
        counts = refl;
        here = put_apart (more Dir) n [] dir differ ∙ more_here Dir;
        dirs = λ d other new. put_apart (more Dir) n [] d new ∙ more_apart Dir d other;
        files = λ f new. refl;
        made = (put_there (more Dir) n [], nothing (get u.files n) no_file);
      }

  module _ (bytes : List ℕ) (few : length bytes ≤ 1048576) where
    abbrev started : FinMap name_cmp (List ℕ)
    started = insert u.files n []

    filled : changed_at started n (appended bytes) ≡ insert started n bytes
    filled = ap (λ (o : Option (List ℕ)). changed o started n (appended bytes)) (put_there u.files n []) ∙ ap (insert started n) (take_all 1048576 bytes few)

    pub put_file : IsPut u (with_more (placed u dir text File n) n bytes) dir n text File bytes
    put_file =
        record {
          root = refl;
          counts = refl;
          here = more_here File;
          dirs = λ d other new. more_apart File d other;
          files = λ f new. ap (λ m. get m f) filled ∙ put_apart started n bytes f new ∙ put_apart u.files n [] f new;
          made = (ap (λ m. get m n) filled ∙ put_there started n bytes, more_apart File n backwards ∙ none_there);
        }
