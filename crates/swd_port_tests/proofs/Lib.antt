mod OpenWires
