-- Texts of moments that are known.
use Rattle.std.proofs.Common.{◌≡◌, refl}
use Rattle.std.specs.Prelude.{codes}
use Rattle.engine_text.specs.Moment.{place_of, year_of, month_of, day_text, clock_text, date_time_text}

pub at_epoch : date_time_text 0 ≡ codes "1970-01-01T00:00:00.000000000Z"
unfolding place_of year_of month_of day_text clock_text date_time_text
at_epoch = refl

pub at_2000 : date_time_text 951_782_400_000 ≡ codes "2000-02-29T00:00:00.000000000Z"
unfolding place_of year_of month_of day_text clock_text date_time_text
at_2000 = refl

pub at_2023 : date_time_text 1_700_000_000_000 ≡ codes "2023-11-14T22:13:20.000000000Z"
unfolding place_of year_of month_of day_text clock_text date_time_text
at_2023 = refl

pub at_700 : date_time_text 1_700_000_000_700 ≡ codes "2023-11-14T22:13:20.700000000Z"
unfolding place_of year_of month_of day_text clock_text date_time_text
at_700 = refl

pub at_last : date_time_text 9_000_000_000_000 ≡ codes "2255-03-14T16:00:00.000000000Z"
unfolding place_of year_of month_of day_text clock_text date_time_text
at_last = refl
