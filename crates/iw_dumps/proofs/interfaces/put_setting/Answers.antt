use Rattle.iw_dumps.proofs.interfaces.put_setting.Goals as goal

pub returns-in-Limit : goal.returns-in-Limit
returns-in-Limit c = rw c.in-Limit.is c.put_power.ensures

pub returns-in-Fixed : goal.returns-in-Fixed
returns-in-Fixed c = rw c.in-Fixed.is c.put_power-in-Fixed.ensures
