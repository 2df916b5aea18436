use Rattle.std.proofs.Common.{sym, ap, ◌∙◌}
use Rattle.std.specs.Option.{option_map, option_copied}
use Rattle.hz_check.proofs.Lists.FirstOf.{earliest-sites_of}
use Rattle.hz_check.proofs.names.site.site_in.Goals as goal

pub returns-in-Some : goal.returns-in-Some
returns-in-Some c = λ names reported.
    ap (option_map (λ name. record { line = c.args.line; form = c.args.form; name = name })) (sym (ap option_copied c.in-Some.is) ∙ reported) ∙ sym (earliest-sites_of c.args.line c.args.form names)
