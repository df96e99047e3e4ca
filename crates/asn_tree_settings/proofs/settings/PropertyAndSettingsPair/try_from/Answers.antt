use Rattle.asn_tree_settings.proofs.RowsPassed.{missed}
use Rattle.asn_tree_settings.proofs.settings.PropertyAndSettingsPair.try_from.Goals as goal

pub returns-else-eq-9 : goal.returns-else-eq-9
returns-else-eq-9 c =
    rw (
      missed c.eq.ensures c.if-eq.false,
      missed c.eq-else-eq.ensures c.if-eq-2.false,
      missed c.eq-else-eq-2.ensures c.if-eq-3.false,
      missed c.eq-else-eq-3.ensures c.if-eq-4.false,
      missed c.eq-else-eq-4.ensures c.if-eq-5.false,
      missed c.eq-else-eq-5.ensures c.if-eq-6.false,
      missed c.eq-else-eq-6.ensures c.if-eq-7.false,
      missed c.eq-else-eq-7.ensures c.if-eq-8.false,
      missed c.eq-else-eq-8.ensures c.if-eq-9.false,
    )
