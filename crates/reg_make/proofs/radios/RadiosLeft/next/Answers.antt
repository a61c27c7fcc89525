use Rattle.reg_make.proofs.Left.{radio_first, ap_first, sta_first}
use Rattle.reg_make.proofs.radios.RadiosLeft.next.Goals as goal

pub returns-in-Whole-clause-next : goal.returns-in-Whole-clause-next
returns-in-Whole-clause-next c = radio_first _ _ _ _ _ c.in-Whole.is c.radio.ensures c.profile.ensures c.requires.some

pub returns-in-Ifaces-clause-next : goal.returns-in-Ifaces-clause-next
returns-in-Ifaces-clause-next c = ap_first _ _ _ _ _ c.in-Ifaces.is c.radio-in-Ifaces.ensures c.ap_name.ensures c.requires.some

pub returns-in-LastIface-clause-next : goal.returns-in-LastIface-clause-next
returns-in-LastIface-clause-next c = sta_first _ _ _ _ _ c.in-LastIface.is c.radio-in-LastIface.ensures c.sta_name.ensures c.requires.some
