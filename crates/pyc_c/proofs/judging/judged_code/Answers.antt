use Rattle.std.proofs.Common.{refl}
use Rattle.pyc_c.proofs.judging.judged_code.Goals as goal

pub returns-in-Ok-Yes-clause-is : goal.returns-in-Ok-Yes-clause-is
returns-in-Ok-Yes-clause-is c =
    rw c.ending.ensures (
      c.in-Ok-Yes.ensures.exact.0 c.in-Ok-Yes.field-0-is,
      c.in-Ok-Yes.ensures.safe c.in-Ok-Yes.field-0-is,
      record { uncounted = refl; unit_is = refl; kind_is = refl; same = refl },
      refl,
    )
