-- Units, gone through one by one.
use Rattle.std.proofs.Common.{◌≡◌, ℕ, ◌+◌, ◌<◌, ◌≤◌, true, false, List, ◌∷◌, length, drop, get_or, Some, None, sym, ap, ◌∙◌, cond}
use Rattle.std.proofs.lemmas.List.{drop_more, drop_all}
use Rattle.lam_bytecode.specs.declared.unit.CodeUnit.{CodeUnit}
use Rattle.thread_steps.specs.Ops.{is_region, region_from}

pub region_skip : (us : List CodeUnit) (n r : ℕ) (u : CodeUnit) → u ≡ get_or us n u → n < length us → is_region r u.kind ≡ false → region_from n r (drop n us) ≡ region_from (n + 1) r (drop (n + 1) us)
region_skip us n r u e h f =
    let d : drop n us ≡ u ∷ drop (n + 1) us = drop_more us n u h ∙ ap (λ x. x ∷ drop (n + 1) us) (sym e) in
    ap (region_from n r) d ∙ ap (λ b. cond b (Some (record { number = n; it = u })) (region_from (n + 1) r (drop (n + 1) us))) f

pub region_hit : (us : List CodeUnit) (n r : ℕ) (u : CodeUnit) → u ≡ get_or us n u → n < length us → is_region r u.kind ≡ true → region_from n r (drop n us) ≡ Some (record { number = n; it = u })
region_hit us n r u e h f =
    let d : drop n us ≡ u ∷ drop (n + 1) us = drop_more us n u h ∙ ap (λ x. x ∷ drop (n + 1) us) (sym e) in
    ap (region_from n r) d ∙ ap (λ b. cond b (Some (record { number = n; it = u })) (region_from (n + 1) r (drop (n + 1) us))) f

pub region_end : (us : List CodeUnit) (n r : ℕ) → length us ≤ n → region_from n r (drop n us) ≡ None
region_end us n r h = ap (region_from n r) (drop_all n us h)
