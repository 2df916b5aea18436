-- Places in a file, as the definitions have them.
use Rattle.std.specs.Prelude.{Option}
use Rattle.std.specs.Option.{option_map}
use Rattle.hz_description_model.specs.Check.Sites as model
use Rattle.hz_check_reservations.specs.declared.ordering.site.Site.{Site}

-- a site
abbrev pub site_of : Site → model.Site
site_of s = record { line = s.line; form = s.form; name = s.name.now }

-- the site that is reported, if there is one
abbrev pub reported : Option Site → Option model.Site
reported site = option_map site_of site
