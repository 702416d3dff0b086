mod EndSizes
