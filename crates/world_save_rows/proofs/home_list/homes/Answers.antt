use Rattle.std.proofs.Common.{◌∙◌, ap, sym, subst, map}
use Rattle.lam_value.specs.Homes.{IsListing}
use Rattle.lam_value_homes.specs.Homes.{listed_home}
use Rattle.world_save_rows.proofs.home_list.homes.Goals as goal

pub returns : goal.returns
returns c =
    subst (λ hs. IsListing hs c.args.files.now.counts) (sym (c.in_ok-homes.ensures ∙ ap (map listed_home) c.as_slice.ensures.value ∙ c.in_ok-listed.ensures))
    c.counters-counters.ensures.list
